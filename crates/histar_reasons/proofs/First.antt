-- A reason is that of the first part of a rule that is not met.
use Rattle.std.specs.Prelude.{◌≡◌, ◌⊎◌, Bool, true, false, not, [], ◌∷◌, Option, None, Some, is_some, option_map, refl}
use Rattle.std.proofs.Common.{sym, ap, ◌∙◌, inl, inr}
use Rattle.histar_base.specs.Refusals.{◌orelse◌, unless}
use Rattle.histar_flat.specs.declared.replies.Errno.{Errno}
use Rattle.histar_flat.specs.Words.{Path, ProcName}
use Rattle.histar_flat.specs.Accounts.{Accounts}
use Rattle.histar_flat.specs.Files.{get}
use Rattle.histar_flat.specs.Classes.{Process}
use Rattle.histar_flat.specs.FlatState.{Flat, Node, is_some_and, is_dir, is_dir_at, into, class_of}
use Rattle.histar_flat.specs.Needs.{Need, not_found, passes, unmet}
use Rattle.histar_flat.specs.Needs.Need.{Nothing, Walk, ◌then◌, ◌or◌, Found}
use Rattle.histar_flat.specs.CallRules.{path_of, rule}
use Rattle.histar_flat.specs.RuleLaws.{Met}
use Rattle.histar_flat.proofs.Warrants.{met}
use Rattle.histar_reasons.specs.Causes.{unknown, unread}
use Rattle.histar_reasons.specs.Reasons.{Reason, errno_of, why_into, why_walk, unseen, why_not_found, why_test, why_need}
use Rattle.histar_reasons.specs.Reasons.Reason.{MayNotRead, IsMissing, HasFile, NoProcess, IsUnseen}
use Rattle.histar_reasons.specs.Laws.{IsFirstOnWay, IsFirstSought, IsFirstUnmet, ReasonsAreFirst}
use Rattle.histar_reasons.proofs.Options.{from_map, from_orelse}
use Rattle.histar_reasons.proofs.Agreeing.{IsGrounded, directory_there, into_agrees, search_agrees, test_agrees, agrees, grounded_at}

-- what has no reason has no refusal
none_refused : (o : Option Reason) (u : Option Errno) → option_map errno_of o ≡ u → o ≡ None → u ≡ None
none_refused o u h e = sym h ∙ ap (option_map errno_of) e

-- what has a reason has a refusal, and its test has failed
test_failed : (b : Bool) (e : Errno) (r : Reason) (o : Option Reason) → option_map errno_of o ≡ unless b e → o ≡ Some r → b ≡ false
test_failed true e r None h i = absurd (cc)
test_failed true e r (Some x) h i = absurd (cc)
test_failed false e r o h i = refl

module _ (accounts : Accounts) (f : Flat) (me : ProcName) (p : Process) where
  -- one step of a walk has its own reason
  step_first : (q : Path) (r : Reason) (o : Option Node)
      → (unless (is_some_and o (λ n. true)) (IsMissing q) orelse unless (is_some_and o is_dir) (HasFile q)
      orelse option_map (MayNotRead q) (unread accounts p (class_of o))) ≡ Some r
      → ((is_some_and o (λ n. true) ≡ false) × (r ≡ IsMissing q)) ⊎ ((is_some_and o (λ n. not (is_dir n)) ≡ true) × (r ≡ HasFile q))
      ⊎ ((is_some_and o is_dir ≡ true) × (option_map (MayNotRead q) (unread accounts p (class_of o)) ≡ Some r))
  step_first q r None h = inl (refl, (cc))
  step_first q r (Some n) h = by (is_dir n) h
    where
      by : (b : Bool) → (unless b (HasFile q) orelse option_map (MayNotRead q) (unread accounts p n.class)) ≡ Some r
          → ((true ≡ false) × (r ≡ IsMissing q)) ⊎ ((not b ≡ true) × (r ≡ HasFile q))
          ⊎ ((b ≡ true) × (option_map (MayNotRead q) (unread accounts p n.class) ≡ Some r))
      by true i = inr (inr (refl, i))
      by false i = inr (inl (refl, (cc)))

  module _ (root : is_dir_at f [] ≡ true) where
    way_first : (d : Path) (r : Reason) → why_into accounts f p d ≡ Some r → IsFirstOnWay accounts f me p d r
    way_first [] r h = h
    way_first (n ∷ d) r h =
        from_orelse (λ r. IsFirstOnWay accounts f me p (n ∷ d) r) (why_into accounts f p d) _ r
        (λ e. inl (way_first d r e))
        (λ e i. inr (
          none_refused (why_into accounts f p d) (into accounts f p d) (into_agrees accounts f p (directory_there (get f.files []) root) d) e,
          step_first (n ∷ d) r (get f.files (n ∷ d)) i,
        ))
        h

    -- one step of a search has its own reason
    sought_first : (name : ProcName) (r : Reason) (o : Option Process)
        → (unless (is_some o) (NoProcess name) orelse unseen accounts f p name o) ≡ Some r
        → (r ≡ NoProcess name) ⊎ ((job : ProcName) × (r ≡ IsUnseen name job))
    sought_first name r None h = inl (cc)
    sought_first name r (Some other) h =
        inr (from_map (λ r. (job : ProcName) × (r ≡ IsUnseen name job)) (IsUnseen name) (unknown p other.chain) r (λ job e. (job, refl)) h)

    search_first : (name : ProcName) (r : Reason) → why_not_found accounts f p name ≡ Some r → IsFirstSought accounts f me p name r
    search_first [] r h = absurd (cc)
    search_first (n ∷ above) r h =
        from_orelse (λ r. IsFirstSought accounts f me p (n ∷ above) r) (why_not_found accounts f p above) _ r
        (λ e. inl (search_first above r e))
        (λ e i. inr (
          none_refused (why_not_found accounts f p above) (not_found f p above) (search_agrees accounts f p above) e,
          sought_first (n ∷ above) r (f.processes (n ∷ above)) i,
        ))
        h

    walk_first : (q : Path) (r : Reason) → why_walk accounts f p q ≡ Some r → IsFirstUnmet accounts f me p q Walk r
    walk_first [] r h = absurd (cc)
    walk_first (n ∷ d) r h = way_first d r h

    first_of_need : (q : Path) (Known : Type 0) (need : Need) → IsGrounded accounts f me p q Known need → Known
        → (r : Reason) → why_need accounts f me p q need ≡ Some r → IsFirstUnmet accounts f me p q need r
    first_of_need q Known Nothing grounded known r h = absurd (cc)
    first_of_need q Known (a then b) grounded known r h =
        from_orelse (λ r. IsFirstUnmet accounts f me p q (a then b) r) (why_need accounts f me p q a) (why_need accounts f me p q b) r
        (λ e. inl (first_of_need q Known a grounded.0 known r e))
        (λ e i. let none =
        none_refused (why_need accounts f me p q a) (unmet accounts f me p q a) (agrees accounts f me p root q Known a grounded.0 known) e in
        inr (none, first_of_need q (Known × Met accounts f me p q a) b grounded.1 (known, met accounts f me p q a none) r i))
        h
    first_of_need q Known (test or e) grounded known r h = (
      test_failed (passes accounts f me p q test) e r (why_test accounts f me p q e test)
          (test_agrees accounts f me p root q e test grounded.0 (grounded.1 known)) h,
      h,
    )
    first_of_need q Known Walk grounded known r h = walk_first q r h
    first_of_need q Known (Found name) grounded known r h = search_first name r h

pub reasons_are_first : ReasonsAreFirst
reasons_are_first accounts f tree me p call r h =
    first_of_need accounts f me p tree.root (path_of call) (Unit {0}) (rule call).needs (grounded_at accounts f me p (path_of call) call) tt r h
