-- What holds of one of the states of a run.
use Rattle.std.specs.Prelude.{◌≡◌, ◌||◌, ◌↔◌, Bool, true, false, is_some, List, [], ◌∷◌, ◌++◌, Option, None, Some, refl}
use Rattle.std.proofs.Common.{ap, sym, ◌∙◌}
use Rattle.std.specs.List.{Contains, flat_map, list_any}
use Rattle.std.specs.declared.cmp.Ordering.{Ordering}
use Rattle.std.specs.Ordering.{eq_by_cmp}
use Rattle.std.specs.Cmp.{IsTotalOrder, eq_by_cmp_equiv}
use Rattle.std.proofs.lemmas.Map.Views.{Contains-from_any, list_any-from_Contains}
use Rattle.histar_flat.proofs.Finding.{equal}
use Rattle.std.specs.FinMap.{IsAntisymmetric}
use Rattle.std.specs.FinMap.Entries.{is_some-find}
use Rattle.histar_flat.specs.declared.calls.CallLine.{CallLine}
use Rattle.histar_flat.specs.Words.{Path, ProcName}
use Rattle.histar_base.specs.Paths.{path_cmp}
use Rattle.histar_base.proofs.PathLaws.{path_cmp_exact, path_cmp_total}
use Rattle.histar_flat.specs.Accounts.{Accounts}
use Rattle.histar_flat.specs.Files.{get}
use Rattle.histar_flat.specs.FlatState.{Flat, Node, is_some_and, is_there}
use Rattle.histar_flat.specs.FlatCalls.{flat_after, running}
use Rattle.histar_flat.specs.Meaning.{boot, flat_end}
use Rattle.histar_rights.specs.Running.{process_cmp, running_in}
use Rattle.histar_rights.proofs.Listed.{running_are_listed}
use Rattle.histar_rights.specs.declared.rights.Rights.{Rights}
use Rattle.histar_diff.specs.Shown.{rights_of}
use Rattle.histar_diff.proofs.Steps.{process_cmp_exact, process_cmp_total}
use Rattle.histar_cells.specs.ByUser.{user_rights_at}
use Rattle.histar_ever.specs.Ever.{any_rights, paths_in, processes_in, rising}
use Rattle.histar_ever.specs.Laws.{HeldOnce, LettersOfUsersWereThere, LettersWereThere, PathsWereThere, ProcessesRan, WereLettersOf}
use Rattle.histar_ever.specs.States.{states_from}
use Rattle.histar_ever.proofs.Keys.{among_rising, in_ever, rising_rise}
use Rattle.histar_ever.proofs.Letters.{any_letter}

module _ (accounts : Accounts) (test : Flat → Bool) where
  -- a test that one of the states passes holds once
  one_held : (f : Flat) (calls : List CallLine) → list_any test (states_from accounts f calls) ≡ true → HeldOnce accounts f calls test
  one_held f [] any = by (test f) refl any
    where
      by : (b : Bool) → test f ≡ b → (b || false) ≡ true → HeldOnce accounts f [] test
      by true is any = record { front = []; rest = []; parts = refl; held = is }
      by false is any = absurd cc
  one_held f (c ∷ calls) any = by (test f) refl any (one_held (flat_after accounts f c.process c.call) calls)
    where
      by : (b : Bool) → test f ≡ b → (b || list_any test (states_from accounts (flat_after accounts f c.process c.call) calls)) ≡ true
          → (list_any test (states_from accounts (flat_after accounts f c.process c.call) calls) ≡ true
          → HeldOnce accounts (flat_after accounts f c.process c.call) calls test)
          → HeldOnce accounts f (c ∷ calls) test
      by true is any later = record { front = []; rest = c ∷ calls; parts = refl; held = is }
      by false is any later =
          let h = later any in
          record { front = c ∷ h.front; rest = h.rest; parts = ap (λ (l : List CallLine). c ∷ l) h.parts; held = h.held }

  first_passes : (f : Flat) (fs : List Flat) → test f ≡ true → (test f || list_any test fs) ≡ true
  first_passes f fs is = ap (λ b. b || list_any test fs) is

  or_true : (a b : Bool) → b ≡ true → (a || b) ≡ true
  or_true true b is = refl
  or_true false b is = is

  at_start : (f : Flat) (rest : List CallLine) → test f ≡ true → list_any test (states_from accounts f rest) ≡ true
  at_start f [] is = first_passes f [] is
  at_start f (c ∷ rest) is = first_passes f (states_from accounts (flat_after accounts f c.process c.call) rest) is

  -- a test that held is passed by one of the states
  held_one : (f : Flat) (front rest : List CallLine) → test (flat_end accounts f front) ≡ true
      → list_any test (states_from accounts f (front ++ rest)) ≡ true
  held_one f [] rest is = at_start f rest is
  held_one f (c ∷ front) rest is = or_true (test f) _ (held_one (flat_after accounts f c.process c.call) front rest is)

  -- one of the states passes a test exactly if it held once
  pub held_exactly : (f : Flat) (calls : List CallLine) (b : Bool) → b ≡ list_any test (states_from accounts f calls)
      → (b ≡ true) ↔ HeldOnce accounts f calls test
  held_exactly f calls b is = (
    λ e. one_held f calls (sym is ∙ e),
    λ h. is ∙ ap (λ cs. list_any test (states_from accounts f cs)) h.parts ∙ held_one f h.front h.rest h.held,
  )

-- a test that says the same holds alike
held_alike : (accounts : Accounts) (f : Flat) (calls : List CallLine) (one other : Flat → Bool)
    → ((front : List CallLine) → one (flat_end accounts f front) ≡ other (flat_end accounts f front))
    → HeldOnce accounts f calls one → HeldOnce accounts f calls other
held_alike accounts f calls one other same h = record { front = h.front; rest = h.rest; parts = h.parts; held = sym (same h.front) ∙ h.held }

-- ---- letters

module _ (accounts : Accounts) (calls : List CallLine) (g : Flat → Rights) where
  -- the letters of these rights in one of the states are those that they had once
  were_letters : WereLettersOf accounts calls g (any_rights g (states_from accounts (boot accounts) calls))
  were_letters =
      let fs = states_from accounts (boot accounts) calls in
      record {
        stat = held_exactly accounts (λ f. (g f).stat) (boot accounts) calls _ (any_letter g (λ r. r.stat) refl (λ a b. refl) fs);
        read = held_exactly accounts (λ f. (g f).read) (boot accounts) calls _ (any_letter g (λ r. r.read) refl (λ a b. refl) fs);
        write = held_exactly accounts (λ f. (g f).write) (boot accounts) calls _ (any_letter g (λ r. r.write) refl (λ a b. refl) fs);
        remove = held_exactly accounts (λ f. (g f).remove) (boot accounts) calls _ (any_letter g (λ r. r.remove) refl (λ a b. refl) fs);
      }

pub letters_were_there : LettersWereThere
letters_were_there accounts calls q p = were_letters accounts calls (λ f. rights_of accounts f q p)

pub letters_of_users_were_there : LettersOfUsersWereThere
letters_of_users_were_there accounts calls q user = were_letters accounts calls (λ f. user_rights_at accounts f q user)

-- ---- paths

there : (o : Option Node) → is_some o ≡ is_some_and o (λ n. true)
there None = refl
there (Some n) = refl

path_there : (f : Flat) (q : Path) → list_any (eq_by_cmp path_cmp q) (paths_in f) ≡ is_there f q
path_there f q = sym (is_some-find path_cmp q f.files.entries) ∙ there (get f.files q)

-- a key is contained in keys in their order exactly if it is among them
contained : {K : Type 0} (R : K → K → Ordering) → IsTotalOrder R → IsAntisymmetric R → (ks : List K) (q : K) (P : Type 0)
    → (list_any (eq_by_cmp R q) ks ≡ true) ↔ P → Contains (rising R ks) q ↔ P
contained R total exact ks q P both = (
  λ has. both.0 (sym (among_rising R total ks q) ∙ list_any-from_Contains (eq_by_cmp_equiv total) q (rising R ks) has),
  λ is. Contains-from_any (λ x y t. exact x y (equal (R x y) t)) q (rising R ks) (among_rising R total ks q ∙ both.1 is),
)

pub paths_were_there : PathsWereThere
paths_were_there = record {
  rise = λ accounts calls. rising_rise path_cmp _;
  each = λ accounts calls q.
      let fs = states_from accounts (boot accounts) calls in
      contained path_cmp path_cmp_total path_cmp_exact (flat_map paths_in fs) q (HeldOnce accounts (boot accounts) calls (λ f. is_there f q))
      (held_exactly accounts (λ f. is_there f q) (boot accounts) calls _
      (in_ever path_cmp paths_in q fs ∙ ap (λ (t : Flat → Bool). list_any t fs) (λ i f. path_there f q i)));
}

-- ---- processes

process_ran : (accounts : Accounts) (calls : List CallLine) (p : ProcName)
    → list_any (eq_by_cmp process_cmp p) (processes_in (flat_end accounts (boot accounts) calls))
    ≡ is_some (running (flat_end accounts (boot accounts) calls) p)
process_ran accounts calls p =
    let f = flat_end accounts (boot accounts) calls in
    sym (is_some-find process_cmp p (running_in f)) ∙ ap is_some ((running_are_listed accounts calls).each p)

pub processes_ran : ProcessesRan
processes_ran = record {
  rise = λ accounts calls. rising_rise process_cmp _;
  each = λ accounts calls p.
      let fs = states_from accounts (boot accounts) calls in
      let both = held_exactly accounts (λ f. list_any (eq_by_cmp process_cmp p) (processes_in f)) (boot accounts) calls _
      (in_ever process_cmp processes_in p fs) in
      contained process_cmp process_cmp_total process_cmp_exact (flat_map processes_in fs) p
      (HeldOnce accounts (boot accounts) calls (λ f. is_some (running f p))) (
        λ e. held_alike accounts (boot accounts) calls _ _ (λ front. process_ran accounts front p) (both.0 e),
        λ h. both.1 (held_alike accounts (boot accounts) calls _ _ (λ front. sym (process_ran accounts front p)) h),
      );
}
