-- `text::writer::Writer::put_text` meets its contract: the bytes that are copied are those that are set.
use borrow.Rule.Slice.PartMut.{put_mid}
use Rattle.std.proofs.Common.{◌≡◌, ℕ, ◌+◌, ◌-◌, ◌≤◌, List, length, ap, append_assoc, rules, arith}
use Rattle.std.proofs.Math.Seq.{length-sets}
use Rattle.std.proofs.lemmas.List.{drop-drop}
use Rattle.std.proofs.lemmas.List.Edits.{sets, sets-eq}
use Rattle.text.proofs.writer.Writer.put_text.Goals as goal

copied : (at k : ℕ) (l text new : List ℕ) → at + length text ≤ length l → k ≡ length text → new ≡ text → put_mid at k l new ≡ sets l at text
copied at k l text new h long e = rw (long, e, sets-eq text l at h, drop-drop, append_assoc)

pub returns : goal.returns
returns c =
    let w = c.args.self.now in
    let bytes = copied w.at (w.at + length c.args.text.now - w.at) w.out.now c.args.text.now c.copy_from_slice.new.self c.requires (omega arith) c.copy_from_slice.ensures.after in
    record {
      put = record { next = omega arith; bytes = bytes };
      same = search rules;
      length = omega (arith, ap length bytes, length-sets w.out.now w.at c.args.text.now);
    }
