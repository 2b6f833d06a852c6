-- `points::patterns::pattern_offset` meets its contract: each arm is its pattern's case.
use mathlib.Core.Path.{refl, ap, ◌∙◌}
use Prim.Native.Nat.{◌+◌, ◌*◌, ◌/◌, ◌%◌, ◌<◌, ◌≤◌}
use native.Mathlib.Omega.{arith}
use mir.Syntax.{w16}
use mir.ValLaws.{to_z_pos}
use Rattle.motion.specs.Vector.{times_v}
use Rattle.motion.proofs.VectorLaws.{short_fits_v}
use Rattle.points.specs.Patterns.{row_table, col_table, umh_table, offset, points}
use Rattle.points.specs.Asked.{Plain}
use Rattle.points.proofs.PatternLaws.{slight_at, diamond-short, scaled_fits}
use Rattle.points.proofs.patterns.pattern_offset.Goals as goal

pub offset_bounds-i : goal.offset_bounds-i
unfolding points
offset_bounds-i c =
    let few : c.args.i < 4 = rw c.in-Diamond.is at c.requires.1 in
    record { fits = omega arith }

pub bounds-i-i : goal.bounds-i-i
unfolding points
bounds-i-i c = rw c.in-Diamond.is at c.requires.1

pub shl-requires : goal.shl-requires
unfolding Plain
shl-requires c =
    let radius : c.in-Diamond.radius_log2 ≤ 1 = rw c.in-Diamond.is at c.requires.0 in
    (omega arith, short_fits_v _ (diamond-short c.args.i c.in-Diamond.radius_log2 radius))

pub offset_bounds-i-in-Square : goal.offset_bounds-i-in-Square
unfolding points
offset_bounds-i-in-Square c =
    let few : c.args.i < 8 = rw c.in-Square.is at c.requires.1 in
    record { fits = omega arith }

pub bounds-i-i-in-Square : goal.bounds-i-i-in-Square
unfolding points
bounds-i-i-in-Square c = rw c.in-Square.is at c.requires.1

pub overflow_cast-i : goal.overflow_cast-i
unfolding points
overflow_cast-i c =
    let few : c.args.i < 24 = rw c.in-RowLine.is at c.requires.1 in
    record { sfits = omega arith }

pub mul-requires : goal.mul-requires
unfolding points
mul-requires c =
    let few : c.args.i < 24 = rw c.in-RowLine.is at c.requires.1 in
    scaled_fits (slight_at row_table refl (c.args.i % 2)) _ (omega arith)

pub overflow_cast-i-in-ColLine : goal.overflow_cast-i-in-ColLine
unfolding points
overflow_cast-i-in-ColLine c =
    let few : c.args.i < 12 = rw c.in-ColLine.is at c.requires.1 in
    record { sfits = omega arith }

pub mul-requires-in-ColLine : goal.mul-requires-in-ColLine
unfolding points
mul-requires-in-ColLine c =
    let few : c.args.i < 12 = rw c.in-ColLine.is at c.requires.1 in
    scaled_fits (slight_at col_table refl (c.args.i % 2)) _ (omega arith)

pub eighths_offset-requires : goal.eighths_offset-requires
unfolding points
eighths_offset-requires c = rw c.in-Eighths.is at c.requires.1

pub overflow_cast-i-in-Umh : goal.overflow_cast-i-in-Umh
unfolding points
overflow_cast-i-in-Umh c =
    let few : c.args.i < 96 = rw c.in-Umh.is at c.requires.1 in
    record { sfits = omega arith }

pub mul-requires-in-Umh : goal.mul-requires-in-Umh
unfolding points
mul-requires-in-Umh c =
    let few : c.args.i < 96 = rw c.in-Umh.is at c.requires.1 in
    scaled_fits (slight_at umh_table refl (c.args.i % 16)) _ (omega arith)

pub returns-in-Diamond : goal.returns-in-Diamond
unfolding offset
returns-in-Diamond c = rw c.in-Diamond.is c.shl.ensures

pub returns-in-Square : goal.returns-in-Square
unfolding offset
returns-in-Square c = rw c.in-Square.is

pub returns-in-RowLine : goal.returns-in-RowLine
unfolding offset points
returns-in-RowLine c =
    let few : c.args.i < 24 = rw c.in-RowLine.is at c.requires.1 in
    rw c.in-RowLine.is (c.mul.ensures ∙ ap (times_v _) (to_z_pos w16 (c.args.i / 2 * 2 + 1) (omega arith)))

pub returns-in-ColLine : goal.returns-in-ColLine
unfolding offset points
returns-in-ColLine c =
    let few : c.args.i < 12 = rw c.in-ColLine.is at c.requires.1 in
    rw c.in-ColLine.is (c.mul-in-ColLine.ensures ∙ ap (times_v _) (to_z_pos w16 (c.args.i / 2 * 2 + 1) (omega arith)))

pub returns-in-Umh : goal.returns-in-Umh
unfolding offset points
returns-in-Umh c =
    let few : c.args.i < 96 = rw c.in-Umh.is at c.requires.1 in
    rw c.in-Umh.is (c.mul-in-Umh.ensures ∙ ap (times_v _) (to_z_pos w16 (c.args.i / 16 + 1) (omega arith)))
