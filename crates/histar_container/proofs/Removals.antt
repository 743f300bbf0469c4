-- The removal of a tree: the list of reached numbers grows as it is read, and then each of them is taken out of the table.
use Rattle.std.proofs.Common.{◌≡◌, ◌≢◌, ℕ, ◌+◌, ◌<◌, ◌≤◌, nat_eq, Bool, true, false, List, [], ◌∷◌, ◌++◌, None, length, get_or, take, drop, inl, inr}
use Rattle.std.proofs.Common.{arith, refl, sym, ap, ◌∙◌, subst, add-one, length-append, drop-cons, if◌then◌else◌}
use Rattle.std.proofs.lemmas.List.{append-nil, take-append-le, take-append-drop}
use Rattle.std.proofs.Math.Seq.{take-suc}
use Rattle.std.proofs.Math.ListN.{drop_of_length-le}
use Rattle.std.specs.Prelude.{◌↔◌}
use Rattle.std.specs.Set.{is_member}
use Rattle.std.specs.List.{IsDistinct}
use Rattle.std.specs.FinSet as set
use mathlib.Core.Bool.{true≢false}
use Rattle.std.proofs.lemmas.Bool.Decides.{eqb_tells}
use Rattle.std.proofs.lemmas.Bool.{false_from_ne_true}
use Rattle.histar_object.specs.Objects.{TableModel, Objects, AppendsAll, objects_of, without, changed_at, unlinking, links_in, is_present}
use Rattle.histar_container.specs.Tree.{Reached, AreTree, IsCut}
use Rattle.histar_container.proofs.TableMoves.{changed_here, changed_other}
use Rattle.histar_container.proofs.Trees.{not_back, linked_there, reached_there}
use Rattle.histar_container.proofs.Gathering.{Gathers, gathers_first, gathers_all, gathers_more, unread, unread_fewer, distinct_before, member_first}
use Rattle.histar_container.proofs.Gathering.{member_second, member_either, member_one, member_itself}

-- the first i numbers of a list with no more than i are all
pub take_all : {A : Type 0} (list : List A) (i : ℕ) → length list ≤ i → take i list ≡ list
take_all {A} list i le =
    sym (append-nil (take i list)) ∙ ap (λ (l : List A). take i list ++ l) (sym (drop_of_length-le list le))
    ∙ take-append-drop i list

-- the first i + 1 numbers are the first i and the one at i
pub take_more : (list : List ℕ) (i x : ℕ) → i < length list → x ≡ get_or list i x → take (i + 1) list ≡ take i list ++ x ∷ []
take_more list i x lt is = rw add-one (take-suc list i x lt) ∙ ap (λ (y : ℕ). take i list ++ y ∷ []) (sym is)

-- a list is its first i numbers, the one at i and the others
pub split_there : (list : List ℕ) (i x : ℕ) → i < length list → x ≡ get_or list i x → list ≡ take i list ++ x ∷ drop (i + 1) list
split_there list i x lt is =
    sym (take-append-drop i list)
    ∙ ap (λ (l : List ℕ). take i list ++ l)
    (rw add-one (drop-cons list i x lt) ∙ ap (λ (y : ℕ). y ∷ drop (i + 1) list) (sym is))

module _ {L : Type 0} where
  -- the list of the object alone
  pub gathers_init : (objects : Objects L) (o : ℕ) (none list : List ℕ) → none ≡ [] → list ≡ none ++ o ∷ [] → Gathers objects o [] list
  gathers_init objects o none list empty is =
      subst (Gathers objects o []) (sym (is ∙ ap (λ (l : List ℕ). l ++ o ∷ []) empty)) (gathers_first objects o)

  -- one step: the number x at i is read, and the numbers that it links are appended
  module _ (es : TableModel L) (trees : AreTree (objects_of es)) (d o : ℕ) (linked : set.contains (links_in (objects_of es d)) o ≡ true)
      (old new : List ℕ) (i x : ℕ) (lt : i < length old) (is : x ≡ get_or old i x)
      (g : Gathers (objects_of es) o (take i old) old) (appends : AppendsAll (links_in (objects_of es x)) old new)
    where
      read_more : take (i + 1) new ≡ take i old ++ x ∷ []
      read_more = ap (take (i + 1)) appends.is ∙ take-append-le (i + 1) old appends.added (omega arith) ∙ take_more old i x lt is

      x_there : is_present (objects_of es x) ≡ true
      x_there =
          let listed : is_member nat_eq old x ≡ true =
          ap (λ l. is_member nat_eq l x) (split_there old i x lt is)
          ∙ member_second (take i old) (x ∷ drop (i + 1) old) x
          (member_first (x ∷ []) (drop (i + 1) old) x (member_itself x)) in
          reached_there (objects_of es) trees.root trees.next trees.tree o x
          (linked_there (objects_of es) trees.root trees.next trees.tree d o linked) (g.reached x listed)

      -- the list still has the numbers that the read ones link
      pub step_gathers : Gathers (objects_of es) o (take (i + 1) new) new
      step_gathers =
          let more =
          gathers_more (objects_of es) trees.root trees.next trees.tree o (take i old) x (drop (i + 1) old) old
          (split_there old i x lt is) g appends.added appends.listed in
          subst (λ l. Gathers (objects_of es) o l new) (sym read_more) (subst (Gathers (objects_of es) o (take i old ++ x ∷ [])) (sym appends.is)
          more)

      -- the numbers that were read are in the list
      pub step_in_list : i + 1 ≤ length new
      step_in_list = omega (arith, ap length appends.is, length-append old appends.added)

      -- and fewer objects are left to be read
      pub step_fewer : unread es.objects (take (i + 1) new) < unread es.objects (take i old)
      step_fewer =
          let not_read = distinct_before (take i old) x (drop (i + 1) old) (subst (λ l. IsDistinct nat_eq l) (split_there old i x lt is) g.once) in
          subst (λ l. unread es.objects l < unread es.objects (take i old)) (sym read_more) (unread_fewer es.objects (take i old) x x_there not_read)

  -- after all are read, the list has exactly the reached numbers
  pub gathers_end : (objects : Objects L) (o : ℕ) (list : List ℕ) (i : ℕ) → length list ≤ i
      → Gathers objects o (take i list) list → (q : ℕ) → (is_member nat_eq list q ≡ true) ↔ Reached objects o q
  gathers_end objects o list i le g q = (g.reached q, gathers_all objects o list (subst (λ l. Gathers objects o l list) (take_all list i le) g) q)

  -- one more number is taken out
  pub removes_more : (start before after : Objects L) (list : List ℕ) (i x : ℕ) → i < length list → x ≡ get_or list i x → after ≡ without before x
      → ((q : ℕ) → before q ≡ (if is_member nat_eq (take i list) q then None else start q)) → (q : ℕ)
      → after q ≡ (if is_member nat_eq (take (i + 1) list) q then None else start q)
  removes_more start before after list i x lt is removed so_far q =
      (λ k. removed k q)
      ∙ elim (eqb_tells q x) as (λ _. without before x q ≡ (if is_member nat_eq (take i list ++ x ∷ []) q then None else start q)) [
        | inl e ↦ ap (λ b. if b then None else before q) e.0
            ∙ sym (ap (λ b. if b then None else start q)
            (member_second (take i list) (x ∷ []) q (ap (is_member nat_eq (x ∷ [])) e.1 ∙ member_itself x)))
        | inr e ↦ ap (λ b. if b then None else before q) e.0 ∙ so_far q ∙ ap (λ b. if b then None else start q) (not_x e.1)
      ]
      ∙ ap (λ l. if is_member nat_eq l q then None else start q) (sym (take_more list i x lt is))
    where
      not_x : q ≢ x → is_member nat_eq (take i list) q ≡ is_member nat_eq (take i list ++ x ∷ []) q
      not_x other = by (is_member nat_eq (take i list ++ x ∷ []) q) refl
        where
          by : (b : Bool) → is_member nat_eq (take i list ++ x ∷ []) q ≡ b → is_member nat_eq (take i list) q ≡ b
          by true k = elim (member_either (take i list) (x ∷ []) q k) [ inl e ↦ e | inr e ↦ absurd (other (member_one x q e)) ]
          by false k = false_from_ne_true _ (λ e. true≢false (sym (member_first (take i list) (x ∷ []) q e) ∙ k))

  -- after all reached numbers are taken out, the tree is cut
  pub cut_done : (objects middle after : Objects L) (trees : AreTree objects) (d o : ℕ)
      → set.contains (links_in (objects d)) o ≡ true → (list : List ℕ) (n : ℕ) → length list ≤ n
      → ((q : ℕ) → (is_member nat_eq list q ≡ true) ↔ Reached objects o q) → middle ≡ changed_at objects d (unlinking o)
      → ((q : ℕ) → after q ≡ (if is_member nat_eq (take n list) q then None else middle q)) → IsCut objects d o after
  cut_done objects middle after trees d o linked list n le each is_middle is_after = record {
    gone = λ q r. result q ∙ ap (λ b. if b then None else middle q) ((each q).1 r);
    stays = λ q not_reached other. left q not_reached ∙ (λ k. is_middle k q) ∙ changed_other objects d (unlinking o) q other;
    unlinked = left d (not_back objects trees.root trees.next trees.tree d o linked) ∙ (λ k. is_middle k d) ∙ changed_here objects d (unlinking o);
  }
    where
      result : (q : ℕ) → after q ≡ (if is_member nat_eq list q then None else middle q)
      result q = is_after q ∙ ap (λ l. if is_member nat_eq l q then None else middle q) (take_all list n le)

      left : (q : ℕ) → ¬ Reached objects o q → after q ≡ middle q
      left q not_reached = result q ∙ ap (λ b. if b then None else middle q) (false_from_ne_true _ (λ k. not_reached ((each q).0 k)))
