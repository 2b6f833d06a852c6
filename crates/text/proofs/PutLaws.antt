-- Texts that a writer puts, and text put behind text. Assumes nothing.
use mathlib.Core.Path.{◌≡◌, refl, sym, ap₂, subst, ◌∙◌}
use mathlib.Core.List.{List, [], ◌++◌}
use Prim.Native.Nat.{ℕ}
use native.Mathlib.Omega.{arith}
use lib.ListN.{length-append}
use lib.Seq.{sets}
use Rattle.ground.proofs.ListLaws.{sets_append}
use Rattle.text.specs.declared.writer.Writer.{Writer}
use Rattle.text.specs.Put.{Put, Puts}

pub puts_nothing : (w : Writer) → Puts [] w w
puts_nothing w = record { put = record { next = omega arith; bytes = refl }; same = refl; length = refl }

pub puts_as : {a b : List ℕ} {old new : Writer} → a ≡ b → Puts a old new → Puts b old new
puts_as {old = old} {new} e p = subst (λ (text : List ℕ). Puts text old new) e p

-- a text put behind another is put with it
pub behind : {xs ys : List ℕ} {i j k : ℕ} {l m n : List ℕ} → Put xs i l j m → Put ys j m k n → Put (xs ++ ys) i l k n
behind {xs} {ys} {i} {l = l} p q =
    record {
      next = rw length-append (omega arith);
      bytes = q.bytes ∙ ap₂ (λ (a : List ℕ) (b : ℕ). sets a b ys) p.bytes p.next ∙ sym (sets_append l i xs ys);
    }

pub puts_behind : {xs ys : List ℕ} {u v w : Writer} → Puts xs u v → Puts ys v w → Puts (xs ++ ys) u w
puts_behind p q =
    record { put = behind p.put q.put; same = q.same ∙ p.same; length = q.length ∙ p.length }
