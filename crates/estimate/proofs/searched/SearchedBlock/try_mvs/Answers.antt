-- `estimate::searched::SearchedBlock::try_mvs` meets its contract.
use Rattle.std.proofs.Common.{◌≡◌, ℕ, sym, ap, subst, ◌∙◌, get_or, length, arith}
use Rattle.motion.specs.declared.vector.MotionVector.{MotionVector}
use Rattle.motion.specs.Vector.{zero_v}
use Rattle.sad.specs.Planes.{rd_in}
use Rattle.search.specs.declared.result.MotionSearchResult.{MotionSearchResult}
use Rattle.search.specs.Result.{try_one, try_each}
use Rattle.search.proofs.ResultLaws.{each_none, each_more}
use Rattle.estimate.specs.Asked.{Honest}
use Rattle.estimate.specs.Block.{try_mvs}
use Rattle.estimate.proofs.BlockFacts.{honest_one}
use Rattle.estimate.proofs.searched.SearchedBlock.try_mvs.Goals as goal

pub loop-mv-init : goal.loop-mv-init
loop-mv-init c =
    record {
      tried = sym (each_none (rd_in c.args.self.planes) c.args.current (λ k. get_or c.args.mvs.now k zero_v));
      honest = c.requires;
    }

pub loop-mv-preserved : goal.loop-mv-preserved
loop-mv-preserved c =
    let rd = rd_in c.args.self.planes in
    let vs : ℕ → MotionVector = λ k. get_or c.args.mvs.now k zero_v in
    let tried : c.try_unless_best-best.result ≡ try_one rd c.loop-mv.best (vs c.loop-mv.mv-index) = c.try_unless_best-best.ensures in
    record {
      tried = tried ∙ ap (λ (m : MotionSearchResult). try_one rd m (vs c.loop-mv.mv-index)) c.loop-mv.invariant.tried ∙ sym (each_more rd c.args.current c.loop-mv.mv-index vs);
      honest = subst (Honest rd) (sym tried) (honest_one rd _ _ c.loop-mv.invariant.honest);
    }

pub returns : goal.returns
unfolding try_mvs
returns c =
    let done : c.loop-mv.mv-index ≡ length c.args.mvs.now = omega arith in
    c.loop-mv.invariant.tried
    ∙ ap (λ (n : ℕ). try_each (rd_in c.args.self.planes) c.args.current n (λ k. get_or c.args.mvs.now k zero_v)) done
