-- `sad::rd::get_fullpel_mv_rd` meets its contract: out of range nothing is measured.
use mathlib.Core.Path.{◌≡◌, sym, ap, ◌∙◌}
use mathlib.Core.Bool.{true}
use Prim.Native.Nat.{ℕ}
use Rattle.motion.specs.Range.{in_range}
use Rattle.sad.specs.Cost.{rd_of}
use Rattle.sad.proofs.CostLaws.{rd_in, rd_out, sad-from}
use Rattle.sad.proofs.rd.get_fullpel_mv_rd.Goals.{Else-not-holds}
use Rattle.sad.proofs.rd.get_fullpel_mv_rd.Goals as goal

held : (c : Else-not-holds) → let p = c.args.p.now in in_range p.block.range c.args.cand_mv ≡ true
held c = cc

pub returns-then-not-holds : goal.returns-then-not-holds
returns-then-not-holds c =
    let p = c.args.p.now in
    c.empty.ensures
    ∙ sym (rd_out p.block p.cur.now p.reference.now c.args.cand_mv (cc))

pub returns : goal.returns
returns c =
    let p = c.args.p.now in
    let v = c.args.cand_mv in
    let within = held (goal.at.returns c).Else-not-holds in
    let sad = c.get_sad-sad.ensures ∙ sad-from p.block v within _ _ c.org_start-src.ensures c.ref_start-dst.ensures p.cur.now p.reference.now in
    c.compute_mv_rd.ensures ∙ ap (λ (s : ℕ). rd_of p.block.weight s v) sad
    ∙ sym (rd_in p.block p.cur.now p.reference.now v within)
