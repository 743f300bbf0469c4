-- The objects that one raw call of boot adds.
use Rattle.std.proofs.Common.{◌≡◌, ℕ, suc, ◌+◌, false, List, [], ◌∷◌, ◌++◌, length, None, Some, Result, Ok, Err, sym, ap, ◌∙◌, subst, arith}
use Rattle.std.proofs.Common.{append_assoc}
use Rattle.std.specs.Prelude.{option_map}
use Rattle.std.specs.FinSet as set
use Rattle.std.specs.Ordering.{nat_cmp}
use Rattle.std.specs.Cmp.{nat_cmp_total}
use Rattle.histar_level.specs.Levels.{Levels}
use Rattle.histar_object.specs.declared.objects.Kind.TheVariants.{Container}
use Rattle.histar_object.specs.declared.objects.Object.{Object}
use Rattle.histar_object.specs.Objects.{Numbers, linking, kind_is_thread}
use Rattle.histar_rules.specs.Rights.{with_category, with_star_at}
use Rattle.histar_object.specs.State.{State, Found, with_object, empty_state, boot_thread}
use Rattle.histar_rules.specs.declared.raw.RawCall.{RawCall}
use Rattle.histar_rules.specs.declared.raw.RawCall.TheVariants.{MakeCategory, Unlink}
use Rattle.histar_rules.specs.declared.raw.Refusal.{Refusal}
use Rattle.histar_rules.specs.declared.raw.Refusal.TheVariants as refusals
use Rattle.histar_rules.specs.Rules.{check}
use Rattle.histar_rules.specs.RawAnswers.{AnswerOf}
use Rattle.histar_rules.specs.Sound.{root_number}
use Rattle.histar_syscall.specs.KernelModel.{KernelModel, state, Called, Answered, AnsweredAs}
use Rattle.histar_syscall.proofs.Runs.{granted_none, granted_more}
use Rattle.histar_container.specs.ObjectsModel.{CutsOff}
use Rattle.histar_layout.specs.Labelling.{written_by}
use Rattle.histar_programs.specs.Start.{state_with, container, root_category}
use Rattle.histar_programs.specs.Start.{boot_thread_number}
use Rattle.histar_login.specs.Booting.{Part, nothing_yet, next_number, next_made, table_of, Boots, OwnsMade, Allows, IsUndenied, Passes, Grants}
use Rattle.histar_login.proofs.Tables.{changed, changed_behind, with_category_is, added_is}
use Rattle.histar_login.proofs.MadeLabels.{boot_owns, owns_next}
use Rattle.histar_login.proofs.FirstAndLast.{empty_is, thread_gone, removed_again}

-- a raw call that the rules allow is not denied
no_denial : {A : Type 0} (old new : KernelModel) (t : ℕ) (call : RawCall) (r : Result A Refusal) (P : A → Type 0)
    → AnsweredAs old new t call r P → check (state old) t call ≡ None → IsUndenied r
no_denial old new t call (Ok a) P answered none = tt
no_denial old new t call (Err (refusals.Denied denied)) P answered none = absurd (let clash : Some denied ≡ None = sym answered.outcome ∙ none in cc)
no_denial old new t call (Err refusals.OutOfMemory) P answered none = tt

-- a raw call of boot that the rules allow is not denied, under equal texts
pub undenied_as : {A : Type 0} (old new : KernelModel) (t : ℕ) (call revealed : RawCall) (r : Result A Refusal)
    (P : A → Type 0) → AnsweredAs old new t call r P → Allows old revealed → t ≡ boot_thread_number → call ≡ revealed
    → IsUndenied r
undenied_as old new t call revealed r P answered allowed is same =
    no_denial old new t call r P answered ((λ i. check (state old) (is i) (same i)) ∙ allowed)

-- a raw call that was answered was granted, or memory ran out
pub grants : {E : Type 0} (old new : KernelModel) (call : RawCall) (r : Result (AnswerOf call) Refusal) (out : Result (AnswerOf call) E)
    → Answered old new boot_thread_number call r → Passes r out → Grants old new call out
grants old new call r (Ok a) answered passes =
    subst (λ (x : Result (AnswerOf call) Refusal). Answered old new boot_thread_number call x) passes answered
grants old new call r (Err stopped) answered passes =
    subst (λ (x : Result (AnswerOf call) Refusal). Answered old new boot_thread_number call x) passes answered

-- a container that links one number more
pub links_more : (label : Levels) (numbers : List ℕ) (n : ℕ)
    → Some (linking n (record { label = label; kind = Container (set.from_list {R = nat_cmp} numbers) }))
    ≡ container label (numbers ++ n ∷ [])
links_more label numbers n =
    ap (λ (links : Numbers). Some (record { label = label; kind = Container links }))
    (sym (set.from_list_push nat_cmp_total set.nat_cmp-IsAntisymmetric numbers n))

-- a part with one category more
abbrev pub one_category : Part → Part
one_category p = record { calls = p.calls ++ MakeCategory ∷ []; linked = p.linked; objects = p.objects; categories = p.categories + 1 }

-- a part with one object more in the root container
abbrev pub one_object : Part → RawCall → Object Levels → Part
one_object p call o =
    record {
      calls = p.calls ++ call ∷ [];
      linked = p.linked ++ next_number p ∷ [];
      objects = p.objects ++ Some o ∷ [];
      categories = p.categories;
    }

-- nothing has been made
pub boots_first : (first : KernelModel) → state first ≡ empty_state → Boots first first nothing_yet
boots_first first empty = record { granted = granted_none first boot_thread_number; boot = boot_thread; owner = boot_owns; agrees = empty ∙ empty_is }

module _ (first old new : KernelModel) (p : Part) (boots : Boots first old p) where
  -- the number that the next object gets
  pub next_number_is : old.kept.next_object ≡ next_number p
  next_number_is = ap (λ (s : State). s.next_object) boots.agrees ∙ omega arith

  -- the category that is made next
  pub next_made_is : old.kept.next_category ≡ next_made p
  next_made_is = ap (λ (s : State). s.next_category) boots.agrees

  -- boot makes one category more
  pub boots_category : Called old new boot_thread_number MakeCategory None → Boots first new (one_category p)
  boots_category called = record {
    granted = granted_more boot_thread_number first old new p.calls MakeCategory boots.granted called;
    boot = with_star_at (next_made p) boots.boot;
    owner =
        subst (λ (n : ℕ). OwnsMade n (with_star_at (next_made p) boots.boot)) (omega arith)
        (owns_next (next_made p) boots.boot boots.owner (omega arith));
    agrees =
        called.state ∙ ap (λ (s : State). with_category s boot_thread_number) boots.agrees
        ∙ with_category_is (table_of boots.boot p) (next_made p) 1
        ∙ ap (state_with (table_of (with_star_at (next_made p) boots.boot) p)) (omega arith);
  }

  -- boot makes one object more in the root container
  pub boots_shared : (call : RawCall) (o : Object Levels) → Called old new boot_thread_number call None
      → state new ≡ with_object (state old) root_number o → Boots first new (one_object p call o)
  boots_shared call o called makes =
      let linked : changed (linking (1 + length (table_of boots.boot p))) 0 (table_of boots.boot p) ++ Some o ∷ []
      ≡ table_of boots.boot (record {
        calls = p.calls;
        linked = p.linked ++ next_number p ∷ [];
        objects = p.objects ++ Some o ∷ [];
        categories = p.categories;
      }) =
      ap (λ (x : Found). x ∷ Some boots.boot ∷ (p.objects ++ Some o ∷ []))
      (links_more (written_by root_category) (boot_thread_number ∷ p.linked) (1 + length (table_of boots.boot p))
      ∙ ap (λ (n : ℕ). container (written_by root_category) (boot_thread_number ∷ (p.linked ++ n ∷ []))) (omega arith)) in
      record {
        granted = granted_more boot_thread_number first old new p.calls call boots.granted called;
        boot = boots.boot;
        owner = boots.owner;
        agrees =
            makes ∙ ap (λ (s : State). with_object s root_number o) boots.agrees
            ∙ added_is (table_of boots.boot p) (next_made p) 0 o
            ∙ ap (λ (table : List Found). state_with table (next_made p)) linked;
      }

  -- boot makes one object more in a container that it made
  pub boots_within : (call : RawCall) (o : Object Levels) (d : ℕ) (front back : List Found) (label : Levels)
      (numbers : List ℕ) → p.objects ≡ front ++ container label numbers ∷ back → d ≡ 3 + length front
      → Called old new boot_thread_number call None → state new ≡ with_object (state old) d o
      → Boots first new (record {
        calls = p.calls ++ call ∷ [];
        linked = p.linked;
        objects = front ++ container label (numbers ++ next_number p ∷ []) ∷ (back ++ Some o ∷ []);
        categories = p.categories;
      })
  boots_within call o d front back label numbers parts at called makes =
      let n = 1 + length (table_of boots.boot p) in
      let root = container (written_by root_category) (boot_thread_number ∷ p.linked) in
      let place : d ≡ suc (suc (suc (length front))) = at ∙ omega arith in
      let linked : changed (linking n) (length front) p.objects ++ Some o ∷ []
      ≡ front ++ container label (numbers ++ next_number p ∷ []) ∷ (back ++ Some o ∷ []) =
      ap (λ (l : List Found). changed (linking n) (length front) l ++ Some o ∷ []) parts
      ∙ ap (λ (l : List Found). l ++ Some o ∷ []) (changed_behind (linking n) front (container label numbers) back)
      ∙ append_assoc front (option_map (linking n) (container label numbers) ∷ back) (Some o ∷ [])
      ∙ ap (λ (x : Found). front ++ x ∷ (back ++ Some o ∷ []))
      (links_more label numbers n ∙ ap (λ (k : ℕ). container label (numbers ++ k ∷ [])) (omega arith)) in
      record {
        granted = granted_more boot_thread_number first old new p.calls call boots.granted called;
        boot = boots.boot;
        owner = boots.owner;
        agrees =
            makes ∙ ap (λ (s : State). with_object s d o) boots.agrees
            ∙ ap (λ (k : ℕ). with_object (state_with (table_of boots.boot p) (next_made p)) k o) place
            ∙ added_is (table_of boots.boot p) (next_made p) (suc (suc (length front))) o
            ∙ ap (λ (l : List Found). state_with (root ∷ Some boots.boot ∷ l) (next_made p)) linked;
      }

  -- the boot thread is gone
  pub boots_last : Called old new boot_thread_number (Unlink root_number boot_thread_number) None
      → set.contains (set.from_list {R = nat_cmp} p.linked) boot_thread_number ≡ false
      → state new ≡ state_with (container (written_by root_category) p.linked ∷ None ∷ p.objects) (next_made p)
  boots_last called none =
      let root : Object Levels =
      record {
        label = written_by root_category;
        kind = Container (set.from_list {R = nat_cmp} (boot_thread_number ∷ p.linked));
      } in
      let cut = subst (λ (s : State). CutsOff s 1 2 (state new)) boots.agrees called.state in
      thread_gone root boots.boot p.objects (next_made p) (ap kind_is_thread boots.owner.is_thread) (state new) cut
      ∙ ap (λ (links : Numbers).
      state_with (Some (record { label = written_by root_category; kind = Container links }) ∷ None ∷ p.objects)
      (next_made p)) (removed_again (set.from_list {R = nat_cmp} p.linked) 2 none)
