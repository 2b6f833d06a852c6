-- `records::parts::put_cell` meets its contract: the mark, and behind it one number, whose bytes are those of row, col and SAD.
use borrow.Author.Rules.{rules}
use Rattle.std.proofs.Common.{◌≡◌, ℕ, ℤ, to_z, ◌+◌, ◌-◌, ◌*◌, ◌<◌, ◌^◌, List, ◌++◌, refl, ap, ap₂, ◌∙◌, of_z, arith}
use Rattle.std.proofs.lemmas.List.Edits.{sets}
use Rattle.std.specs.Int.{w16}
use mir.Val.{SFits}
use mir.ValLaws.{of_z_fits, to_z-of_z}
use Rattle.records.specs.Numbers.{bytes_of}
use Rattle.records.specs.Forms.{mark}
use Rattle.records.specs.Records.{cell_record}
use Rattle.records.proofs.NumberLaws.{puts_on, length-bytes, puts_part, le-bytes, bytes-behind}
use Rattle.records.proofs.parts.put_cell.Goals as goal

-- the number's bytes
in_order : (r k s : ℕ) → r < 2 ^ 16 → k < 2 ^ 16 → mark ++ bytes_of 8 (r + 65536 * (k + 65536 * s)) ≡ mark ++ bytes_of 2 r ++ bytes_of 2 k ++ bytes_of 4 s
unfolding bytes_of
in_order r k s f g =
    ap (λ (l : List ℕ). mark ++ l) (bytes-behind 6 r (k + 65536 * s) f ∙ ap (λ (l : List ℕ). bytes_of 2 r ++ l) (bytes-behind 4 k s g))

-- components are held in bits
bits : (z : ℤ) → SFits w16 z → {r : ℕ} → r ≡ of_z w16 (to_z w16 (of_z w16 z)) → r ≡ of_z w16 z
bits z f e = e ∙ ap (of_z w16) (to_z-of_z w16 z f)

pub returns : goal.returns
unfolding cell_record
returns c =
    let file = c.args.file.now in
    let at = c.args.at in
    let cell = c.args.cell in
    let r = c.cast_unsigned-row.result in
    let k = c.cast_unsigned-col.result in
    let number : ℕ = r + 65536 * (k + 65536 * cell.normalized_sad) in
    let fits : SFits w16 cell.mv.row × SFits w16 cell.mv.col = search rules in
    let rows = bits cell.mv.row fits.0 c.cast_unsigned-row.ensures in
    let cols = bits cell.mv.col fits.1 c.cast_unsigned-col.ensures in
    let eight = c.copy_from_slice.ensures.after ∙ c.to_le_bytes.ensures ∙ le-bytes number in
    let put = puts_part c.put_mark.new.file (at + 2) (at + 10 - (at + 2)) (bytes_of 8 number) eight (omega (arith, length-bytes 8 number)) (omega arith) in
    puts_on file at mark (bytes_of 8 number) c.put_mark.ensures put refl
    ∙ ap (sets file at) (in_order r k cell.normalized_sad (omega (arith, rows, (of_z_fits w16 cell.mv.row fits.0).fits)) (omega (arith, cols, (of_z_fits w16 cell.mv.col fits.1).fits)))
    ∙ ap₂ (λ (x y : ℕ). sets file at (mark ++ bytes_of 2 x ++ bytes_of 2 y ++ bytes_of 4 cell.normalized_sad)) rows cols
