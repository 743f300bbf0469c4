-- Letters that are the same, and letters that give more.
use Rattle.std.specs.Prelude.{◌≡◌, Bool, true, false, not, ◌&&◌, ◌||◌, refl}
use Rattle.std.proofs.Common.{ap, sym, ◌∙◌}
use Rattle.std.proofs.lemmas.Bool.{and_parts, true≢false}
use Rattle.std.specs.Bool.{beq}
use Rattle.histar_rights.specs.declared.rights.Rights.{Rights}
use Rattle.histar_diff.specs.Sides.{same_rights}
use Rattle.histar_diff.specs.Tables.{no_rights}
use Rattle.histar_diff.specs.Gains.{GiveNoMore, gives_more}

-- ---- the same

-- bits that are found equal are equal
same_bit : (a b : Bool) → beq a b ≡ true → a ≡ b
same_bit true true e = refl
same_bit true false e = absurd cc
same_bit false true e = absurd cc
same_bit false false e = refl

-- rights that pass the test are the same
pub same_rights_are : (a b : Rights) → same_rights a b ≡ true → a ≡ b
same_rights_are a b e =
    let last = and_parts (beq a.stat b.stat && beq a.read b.read && beq a.write b.write) (beq a.remove b.remove) e in
    let middle = and_parts (beq a.stat b.stat && beq a.read b.read) (beq a.write b.write) last.0 in
    let front = and_parts (beq a.stat b.stat) (beq a.read b.read) middle.0 in
    λ i. record {
      stat = same_bit a.stat b.stat front.0 i;
      read = same_bit a.read b.read front.1 i;
      write = same_bit a.write b.write middle.1 i;
      remove = same_bit a.remove b.remove last.1 i;
    }

same_bit_itself : (a : Bool) → beq a a ≡ true
same_bit_itself true = refl
same_bit_itself false = refl

-- rights are the same as themselves
same_itself : (r : Rights) → same_rights r r ≡ true
same_itself r = λ i. same_bit_itself r.stat i && same_bit_itself r.read i && same_bit_itself r.write i && same_bit_itself r.remove i

-- the same rights pass the test
pub same_pass : (a b : Rights) → a ≡ b → same_rights a b ≡ true
same_pass a b e = ap (same_rights a) (sym e) ∙ same_itself a

-- ---- more

letter_itself : (a : Bool) → (a && not a) ≡ false
letter_itself true = refl
letter_itself false = refl

-- the same rights give no more
pub none_more : (a b : Rights) → a ≡ b → gives_more a b ≡ false
none_more a b e =
    ap (gives_more a) (sym e)
    ∙ (λ i. letter_itself a.stat i || letter_itself a.read i || letter_itself a.write i || letter_itself a.remove i)

-- a letter that is not gained was there before
was_there : (old new : Bool) → (new && not old) ≡ false → new ≡ true → old ≡ true
was_there true new e has = refl
was_there false true e has = absurd (true≢false e)
was_there false false e has = has

not_gained : (old new : Bool) → (new ≡ true → old ≡ true) → (new && not old) ≡ false
not_gained true true h = refl
not_gained true false h = refl
not_gained false true h = absurd (true≢false (sym (h refl)))
not_gained false false h = refl

-- rights that give no more have no letter that the old ones lack
pub no_more : (a b : Rights) → gives_more a b ≡ false → GiveNoMore a b
no_more a b e =
    let parts = by (b.stat && not a.stat) (b.read && not a.read) (b.write && not a.write) (b.remove && not a.remove) e in
    record {
      stat = was_there a.stat b.stat parts.0;
      read = was_there a.read b.read parts.1;
      write = was_there a.write b.write parts.2;
      remove = was_there a.remove b.remove parts.3;
    }
  where
    by : (x y z w : Bool) → (x || y || z || w) ≡ false → (x ≡ false) × (y ≡ false) × (z ≡ false) × (w ≡ false)
    by false false false false e = (refl, refl, refl, refl)
    by true y z w e = absurd (true≢false e)
    by false true z w e = absurd (true≢false e)
    by false false true w e = absurd (true≢false e)
    by false false false true e = absurd (true≢false e)

pub gives_none : (a b : Rights) → GiveNoMore a b → gives_more a b ≡ false
gives_none a b h = λ i.
    not_gained a.stat b.stat h.stat i || not_gained a.read b.read h.read i || not_gained a.write b.write h.write i
    || not_gained a.remove b.remove h.remove i

-- no rights give no more
pub nothing_more : (a b : Rights) → b ≡ no_rights → GiveNoMore a b
nothing_more a b e = no_more a b (ap (gives_more a) e)
