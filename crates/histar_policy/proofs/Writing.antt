-- Writes that are added to a map.
use Rattle.std.proofs.Common.{◌≡◌, Bool, true, false, cond, ◌&&◌, ◌||◌, List, [], ◌∷◌}
use Rattle.std.proofs.Common.{◌++◌, Option, None, Some, refl, sym, ap, ◌∙◌}
use Rattle.std.specs.Prelude.{not}
use Rattle.std.specs.BTreeMap.{get, is_at}
use Rattle.std.specs.Ordering.{eq_by_cmp}
use Rattle.std.proofs.lemmas.Slice.Eq.{bytes_eq-Decides}
use Rattle.histar_base.specs.Paths.{path_cmp, same}
use Rattle.histar_base.proofs.PathLaws.{path_cmp_exact, path_cmp_ties}
use Rattle.histar_flat.specs.Words.{Name, Path}
use Rattle.histar_flat.proofs.Finding.{equal}
use Rattle.histar_policy.specs.declared.notes.Event.TheVariants.{Wrote}
use Rattle.histar_policy.specs.declared.notes.Note.{Note}
use Rattle.histar_policy.specs.declared.written.Writer.{Writer}
use Rattle.histar_policy.specs.declared.written.Writer.TheVariants.{One, Several}
use Rattle.histar_policy.specs.declared.written.Written.{Written}
use Rattle.histar_policy.specs.Warnings.{is_write_of_another, is_written_by_another}
use Rattle.histar_policy.specs.Writes.{AddsWrite, AreWrites, is_other_writer, with_writer}
use Rattle.histar_policy.proofs.Used.{any_append, or_false}

-- a user with one more is another than the maker where one of the two is
one_more : (maker one user : Name)
    → is_other_writer maker (Some (with_writer (Some (One one)) user)) ≡ (not (same one maker) || not (same user maker))
one_more maker one user = by (same one user) refl
  where
    or_same : (b : Bool) → b ≡ (b || b)
    or_same true = refl
    or_same false = refl

    apart : (a b : Bool) → same one maker ≡ a → same user maker ≡ b → same one user ≡ false → true ≡ (not a || not b)
    apart false b is is' other = refl
    apart true false is is' other = refl
    apart true true is is' other =
        let one_is : one ≡ maker = (bytes_eq-Decides one maker).0 is in
        let user_is : user ≡ maker = (bytes_eq-Decides user maker).0 is' in
        let alike : same one user ≡ true = (bytes_eq-Decides one user).1 (one_is ∙ sym user_is) in absurd cc

    by : (b : Bool) → same one user ≡ b
        → is_other_writer maker (Some (cond b (One one) Several)) ≡ (not (same one maker) || not (same user maker))
    by true e = or_same (not (same one maker))
        ∙ ap (λ (n : Name). not (same one maker) || not (same n maker)) ((bytes_eq-Decides one user).0 e)
    by false e = apart (same one maker) (same user maker) refl refl e

-- those that wrote at a path with one more user have another than the maker where they had, or where this user is one
with_one_more : (maker : Name) (before : Option Writer) (user : Name)
    → is_other_writer maker (Some (with_writer before user)) ≡ (is_other_writer maker before || not (same user maker))
with_one_more maker None user = refl
with_one_more maker (Some (One one)) user = one_more maker one user
with_one_more maker (Some Several) user = refl

-- a write was put into a map
pub write_added : (old new : Written) (user : Name) (path : Path) (writer : Writer)
    → writer ≡ with_writer (get path_cmp old.writers path) user
    → ((q : Path) → get path_cmp new.writers q ≡ cond (is_at (path_cmp path) q) (Some writer) (get path_cmp old.writers q))
    → AddsWrite old new (Wrote user path)
write_added old new user path writer is updates maker q =
    ap (is_other_writer maker) (updates q) ∙ by (eq_by_cmp path_cmp path q) refl
    ∙ ap (λ (b : Bool). had q || (b && not (same user maker))) (sym (path_cmp_ties path q))
  where
    had : Path → Bool
    had r = is_other_writer maker (get path_cmp old.writers r)

    by : (b : Bool) → eq_by_cmp path_cmp path q ≡ b
        → is_other_writer maker (cond b (Some writer) (get path_cmp old.writers q)) ≡ (had q || (b && not (same user maker)))
    by true e =
        ap (λ (w : Writer). is_other_writer maker (Some w)) is ∙ with_one_more maker (get path_cmp old.writers path) user
        ∙ ap (λ (r : Path). had r || not (same user maker)) (path_cmp_exact path q (equal (path_cmp path q) e))
    by false e = or_false (had q)

-- the writes of one more call line are in a map
pub writes_more : (old new : Written) (script : List Note) (note : Note) → AreWrites old script → AddsWrite old new note.event
    → AreWrites new (script ++ note ∷ [])
writes_more old new script note are adds maker q =
    let test : Note → Bool = λ (n : Note). is_write_of_another maker q n.event in
    adds maker q ∙ ap (λ (b : Bool). b || test note) (are maker q)
    ∙ ap (λ (b : Bool). is_written_by_another script maker q || b) (or_false (test note)) ∙ sym (any_append test script (note ∷ []))
