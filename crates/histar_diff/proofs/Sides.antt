-- What is listed between two sides, whatever they are.
use Rattle.std.specs.Prelude.{◌≡◌, ◌≢◌, ◌↔◌, Bool, true, false, is_some, cond, if◌then◌else◌}
use Rattle.std.specs.Prelude.{T, List, [], ◌∷◌, map, Option, None, Some, refl}
use Rattle.std.specs.List.{filter}
use Rattle.std.proofs.Common.{ap, sym, ◌∙◌}
use Rattle.std.proofs.lemmas.Bool.{true≢false}
use Rattle.std.specs.declared.cmp.Ordering.{Ordering}
use Rattle.std.specs.declared.cmp.Ordering.TheVariants.{Less, Equal, Greater}
use Rattle.std.specs.Ordering.{eq_by_cmp, is_eq, ordering_then}
use Rattle.std.specs.Cmp.{IsTotalOrder, then_total, tied_itself}
use Rattle.std.specs.FinMap.Entries.{same_entries}
use Rattle.std.specs.FinMap.{IsAntisymmetric, find, is_sorted}
use Rattle.histar_flat.specs.Words.{Name, Path, ProcName}
use Rattle.histar_base.specs.Paths.{path_cmp}
use Rattle.histar_base.proofs.PathLaws.{path_cmp_exact, path_cmp_total}
use Rattle.histar_rights.specs.declared.rights.Rights.{Rights}
use Rattle.histar_rights.specs.Running.{process_cmp}
use Rattle.histar_diff.specs.declared.lone.Lone.{Lone}
use Rattle.histar_diff.specs.declared.differences.Difference.{Difference}
use Rattle.histar_diff.specs.Sides.{AreBetween, Pair, Side, by_name, by_pair, difference_of, letters, lone_of, pair_cmp}
use Rattle.histar_diff.specs.Sides.{same_letters, same_rights}
use Rattle.histar_diff.specs.Tables.{no_rights}
use Rattle.histar_diff.specs.Gains.{GiveNoMore, HaveNoGain, gains, gives_more, new_ones}
use Rattle.histar_diff.proofs.Joins.{behind, missed, rest_of}
use Rattle.histar_diff.proofs.Letters.{gives_none, no_more, none_more, nothing_more, same_pass, same_rights_are}
use Rattle.histar_diff.proofs.Steps.{by_image, process_cmp_exact, process_cmp_total}

-- ---- pairs

-- the order of pairs is total
pub pair_cmp_total : IsTotalOrder pair_cmp
pair_cmp_total = then_total (by_image (λ (k : Pair). k.0) path_cmp path_cmp_total) (by_image (λ (k : Pair). k.1) process_cmp process_cmp_total)

-- two pairs tie only if they are equal
pub pair_cmp_exact : IsAntisymmetric pair_cmp
pair_cmp_exact a b e = by (path_cmp a.0 b.0) refl e
  where
    by : (o : Ordering) → path_cmp a.0 b.0 ≡ o → ordering_then o (process_cmp a.1 b.1) ≡ Equal → a ≡ b
    by Less m e = absurd cc
    by Equal m e = λ i. (path_cmp_exact a.0 b.0 m i, process_cmp_exact a.1 b.1 e i)
    by Greater m e = absurd cc

-- ---- lists with keys

module _ {K X : Type 0} (R : K → K → Ordering) (total : IsTotalOrder R) (exact : IsAntisymmetric R) (key : X → K) where
  -- the elements with their keys
  abbrev keyed : List X → List (K × X)
  keyed xs = map (λ x. (key x, x)) xs

  without_keys : (xs : List X) → map (λ (e : K × X). e.1) (keyed xs) ≡ xs
  without_keys [] = refl
  without_keys (x ∷ xs) = ap (λ es. x ∷ es) (without_keys xs)

  -- two lists that rise and in which the same is found are the same list
  pub same_list : (xs ys : List X) → T (is_sorted R (keyed xs)) → T (is_sorted R (keyed ys))
      → ((k : K) → find R k (keyed xs) ≡ find R k (keyed ys)) → xs ≡ ys
  same_list xs ys s t each =
      sym (without_keys xs) ∙ ap (map (λ (e : K × X). e.1)) (same_entries R total exact (keyed xs) (keyed ys) s t each) ∙ without_keys ys

  -- a list in which nothing is found is empty
  pub none_found : (xs : List X) → ((k : K) → is_some (find R k (keyed xs)) ≡ false) → xs ≡ []
  none_found [] h = refl
  none_found (x ∷ xs) h =
      absurd (true≢false (sym (ap (λ o. is_some (cond (is_eq o) (Some x) (find R (key x) (keyed xs)))) (tied_itself total (key x))) ∙ h (key x)))

  module _ (F : X → Bool) where
    -- the element, if it passes
    abbrev pub kept : Option X → Option X
    kept None = None
    kept (Some x) = if F x then Some x else None

    -- what is found among the elements that pass is what is found, if it passes
    pub find_kept : (k : K) (xs : List X) → T (is_sorted R (keyed xs)) → find R k (keyed (filter F xs)) ≡ kept (find R k (keyed xs))
    find_kept k [] s = refl
    find_kept k (x ∷ xs) s =
        by (F x) refl (eq_by_cmp R k (key x)) refl (find_kept k xs (rest_of R total exact (key x, x) (keyed xs) s))
      where
        rest : Option X
        rest = find R k (keyed (filter F xs))

        by : (pass : Bool) → F x ≡ pass → (t : Bool) → eq_by_cmp R k (key x) ≡ t
            → find R k (keyed (filter F xs)) ≡ kept (find R k (keyed xs))
            → find R k (keyed (cond pass (x ∷ filter F xs) (filter F xs))) ≡ kept (cond t (Some x) (find R k (keyed xs)))
        by true e true m later = ap (λ t. cond t (Some x) rest) m ∙ sym (ap (λ pass. if pass then Some x else None) e)
        by true e false m later = ap (λ t. cond t (Some x) rest) m ∙ later
        by false e true m later =
            later
            ∙ ap kept (missed R total exact k (key x) (keyed xs) m (behind R total exact (key x, x) (keyed xs) s))
            ∙ sym (ap (λ pass. if pass then Some x else None) e)
        by false e false m later = later

-- ---- what is listed

-- a process is lone exactly if it runs on one side only
is_lone : (p : ProcName) (a b : Option Name) → (is_some (lone_of p a b) ≡ true) ↔ (is_some a ≢ is_some b)
is_lone p None None = (λ e. absurd (true≢false (sym e)), λ differ. absurd (differ refl))
is_lone p (Some a) None = (λ e same. true≢false same, λ differ. refl)
is_lone p None (Some b) = (λ e same. true≢false (sym same), λ differ. refl)
is_lone p (Some a) (Some b) = (λ e. absurd (true≢false (sym e)), λ differ. absurd (differ refl))

-- a process is lone and new exactly if it runs on the new side only
is_new_one : (p : ProcName) (a b : Option Name)
    → (is_some (kept process_cmp process_cmp_total process_cmp_exact (λ (l : Lone). l.process) (λ (l : Lone). l.is_new) (lone_of p a b)) ≡ true)
    ↔ ((is_some a ≡ false) × (is_some b ≡ true))
is_new_one p None None = (λ e. absurd (true≢false (sym e)), λ h. h.1)
is_new_one p (Some a) None = (λ e. absurd (true≢false (sym e)), λ h. h.1)
is_new_one p None (Some b) = (λ e. (refl, refl), λ h. refl)
is_new_one p (Some a) (Some b) = (λ e. absurd (true≢false (sym e)), λ h. absurd (true≢false h.0))

module _ (q : Path) (p : ProcName) (before after : Option Rights) where
  -- the difference of a process with these users
  abbrev there : Name → Name → Difference
  there a b = record { path = q; process = p; old_user = a; user = b; before = before; after = after }

  -- a pair differs exactly if the process runs on both sides and its letters differ
  differs : (a b : Option Name) → (is_some (difference_of q p before after a b) ≡ true)
      ↔ ((is_some a ≡ true) × (is_some b ≡ true) × (letters before ≢ letters after))
  differs None b = (λ e. absurd (true≢false (sym e)), λ h. h.0)
  differs (Some a) None = (λ e. absurd (true≢false (sym e)), λ h. h.1)
  differs (Some a) (Some b) = by (same_letters before after) refl
    where
      by : (same : Bool) → same_letters before after ≡ same → (is_some (if same then None else Some (there a b)) ≡ true)
          ↔ ((true ≡ true) × (true ≡ true) × (letters before ≢ letters after))
      by true e = (λ found. absurd (true≢false (sym found)), λ h. absurd (h.2 (same_rights_are (letters before) (letters after) e)))
      by false e = (λ found. (refl, refl, λ same. true≢false (sym (same_pass (letters before) (letters after) same) ∙ e)), λ h. refl)

  -- the difference, if it is a gain
  abbrev kept_gain : Option Difference → Option Difference
  kept_gain = kept pair_cmp pair_cmp_total pair_cmp_exact (λ (d : Difference). (d.path, d.process))
      (λ (d : Difference). gives_more (letters d.before) (letters d.after))

  some_if : (more : Bool) (d : Difference) → is_some (if more then Some d else None) ≡ more
  some_if true d = refl
  some_if false d = refl

  -- a pair is a gain exactly if the process runs on both sides and its new letters have one that the old ones lack
  is_gain : (a b : Option Name) → (is_some (kept_gain (difference_of q p before after a b)) ≡ true)
      ↔ ((is_some a ≡ true) × (is_some b ≡ true) × (gives_more (letters before) (letters after) ≡ true))
  is_gain None b = (λ e. absurd (true≢false (sym e)), λ h. h.0)
  is_gain (Some a) None = (λ e. absurd (true≢false (sym e)), λ h. h.1)
  is_gain (Some a) (Some b) = by (same_letters before after) refl
    where
      more : Bool
      more = gives_more (letters before) (letters after)

      by : (same : Bool) → same_letters before after ≡ same → (is_some (kept_gain (if same then None else Some (there a b))) ≡ true)
          ↔ ((true ≡ true) × (true ≡ true) × (more ≡ true))
      by true e = (
        λ found. absurd (true≢false (sym found)),
        λ h. absurd (true≢false (sym h.2 ∙ none_more (letters before) (letters after) (same_rights_are (letters before) (letters after) e))),
      )
      by false e = (λ found. (refl, refl, sym (some_if more (there a b)) ∙ found), λ h. some_if more (there a b) ∙ h.2)

-- letters that are the same don't differ
no_difference : (q : Path) (p : ProcName) (before after : Option Rights) → letters before ≡ letters after → (a b : Option Name)
    → None ≡ difference_of q p before after a b
no_difference q p before after same None b = refl
no_difference q p before after same (Some a) None = refl
no_difference q p before after same (Some a) (Some b) =
    sym (ap (λ t. if t then None else Some (there q p before after a b)) (same_pass (letters before) (letters after) same))

-- a process that runs on both sides or on neither isn't lone
not_lone : (p : ProcName) (a b : Option Name) → is_some a ≡ is_some b → None ≡ lone_of p a b
not_lone p None None e = refl
not_lone p (Some a) None e = absurd (true≢false e)
not_lone p None (Some b) e = absurd (true≢false (sym e))
not_lone p (Some a) (Some b) e = refl

-- ---- two sides

-- a test that doesn't pass fails
fails : (b : Bool) → (b ≡ true → ⊥) → b ≡ false
fails true h = absurd (h refl)
fails false h = refl

-- a side, with the processes that run there and their rights at paths, as laws name them
pub record Held : Type 0 where
  pub side : Side
  pub runs : ProcName → Bool
  pub rights : Path → ProcName → Rights
  pub user : (p : ProcName) → is_some (side.user p) ≡ runs p
  pub letters : (q : Path) (p : ProcName) → letters (side.letters q p) ≡ rights q p
  pub blank : (q : Path) (p : ProcName) → runs p ≡ false → rights q p ≡ no_rights

module _ (old new : Held) where
  module _ (lone : List Lone) (ds : List Difference) (are : AreBetween old.side new.side lone ds) where
    pub lone_listed : (p : ProcName) → (is_some (find process_cmp p (by_name lone)) ≡ true) ↔ (old.runs p ≢ new.runs p)
    lone_listed p =
        let is = is_lone p (old.side.user p) (new.side.user p) in (
          λ found same. is.0 (sym (ap is_some (are.each_lone p)) ∙ found) (old.user p ∙ same ∙ sym (new.user p)),
          λ differ. ap is_some (are.each_lone p) ∙ is.1 (λ same. differ (sym (old.user p) ∙ same ∙ new.user p)),
        )

    pub pair_listed : (q : Path) (p : ProcName) → (is_some (find pair_cmp (q, p) (by_pair ds)) ≡ true)
        ↔ ((old.runs p ≡ true) × (new.runs p ≡ true) × (old.rights q p ≢ new.rights q p))
    pair_listed q p =
        let is = differs q p (old.side.letters q p) (new.side.letters q p) (old.side.user p) (new.side.user p) in (
          λ found.
              let h = is.0 (sym (ap is_some (are.each q p)) ∙ found) in
              (sym (old.user p) ∙ h.0, sym (new.user p) ∙ h.1, λ same. h.2 (old.letters q p ∙ same ∙ sym (new.letters q p))),
          λ h. ap is_some (are.each q p)
              ∙ is.1 (old.user p ∙ h.0, new.user p ∙ h.1, λ same. h.2 (sym (old.letters q p) ∙ same ∙ new.letters q p)),
        )

    pub new_listed : (p : ProcName) → (is_some (find process_cmp p (by_name (new_ones lone))) ≡ true)
        ↔ ((old.runs p ≡ false) × (new.runs p ≡ true))
    new_listed p =
        let is = is_new_one p (old.side.user p) (new.side.user p) in
        let found = ap is_some (find_kept process_cmp process_cmp_total process_cmp_exact (λ (l : Lone). l.process) (λ (l : Lone). l.is_new) p lone
        are.lone_rising
        ∙ ap (kept process_cmp process_cmp_total process_cmp_exact (λ (l : Lone). l.process) (λ (l : Lone). l.is_new)) (are.each_lone p)) in (
          λ some.
              let h = is.0 (sym found ∙ some) in
              (sym (old.user p) ∙ h.0, sym (new.user p) ∙ h.1),
          λ h. found ∙ is.1 (old.user p ∙ h.0, new.user p ∙ h.1),
        )

    pub gain_listed : (q : Path) (p : ProcName) → (is_some (find pair_cmp (q, p) (by_pair (gains ds))) ≡ true)
        ↔ ((old.runs p ≡ true) × (new.runs p ≡ true) × (gives_more (old.rights q p) (new.rights q p) ≡ true))
    gain_listed q p =
        let is = is_gain q p (old.side.letters q p) (new.side.letters q p) (old.side.user p) (new.side.user p) in
        let found = ap is_some (find_kept pair_cmp pair_cmp_total pair_cmp_exact (λ (d : Difference). (d.path, d.process))
        (λ (d : Difference). gives_more (letters d.before) (letters d.after)) (q, p) ds are.rising
        ∙ ap (kept_gain q p (old.side.letters q p) (new.side.letters q p)) (are.each q p)) in
        let more : gives_more (letters (old.side.letters q p)) (letters (new.side.letters q p))
        ≡ gives_more (old.rights q p) (new.rights q p) = λ i.
        gives_more (old.letters q p i) (new.letters q p i) in (
          λ some.
              let h = is.0 (sym found ∙ some) in
              (sym (old.user p) ∙ h.0, sym (new.user p) ∙ h.1, sym more ∙ h.2),
          λ h. found ∙ is.1 (old.user p ∙ h.0, new.user p ∙ h.1, more ∙ h.2),
        )

  -- if nothing is listed, the same processes run
  pub same_processes : AreBetween old.side new.side [] [] → (p : ProcName) → old.runs p ≡ new.runs p
  same_processes none p = by (old.runs p) (new.runs p) (λ differ. true≢false (sym ((lone_listed [] [] none p).1 differ)))
    where
      by : (a b : Bool) → ((a ≢ b) → ⊥) → a ≡ b
      by true true h = refl
      by true false h = absurd (h true≢false)
      by false true h = absurd (h (λ e. true≢false (sym e)))
      by false false h = refl

  -- if nothing is listed, a process that runs on both sides has the same letters
  same_of_both : AreBetween old.side new.side [] [] → (q : Path) (p : ProcName) → old.runs p ≡ true → old.rights q p ≡ new.rights q p
  same_of_both none q p runs_old = by (same_rights (old.rights q p) (new.rights q p)) refl
    where
      by : (same : Bool) → same_rights (old.rights q p) (new.rights q p) ≡ same → old.rights q p ≡ new.rights q p
      by true e = same_rights_are (old.rights q p) (new.rights q p) e
      by false e =
          absurd (true≢false (sym ((pair_listed [] [] none q p).1 (
            runs_old,
            sym (same_processes none p) ∙ runs_old,
            λ same. true≢false (sym (same_pass (old.rights q p) (new.rights q p) same) ∙ e),
          ))))

  -- if nothing is listed, each process has the same letters at each path
  pub same_letters_of : AreBetween old.side new.side [] [] → (q : Path) (p : ProcName) → old.rights q p ≡ new.rights q p
  same_letters_of none q p = by (old.runs p) refl
    where
      by : (b : Bool) → old.runs p ≡ b → old.rights q p ≡ new.rights q p
      by true e = same_of_both none q p e
      by false e = old.blank q p e ∙ sym (new.blank q p (sym (same_processes none p) ∙ e))

  -- if there is no gain, each letter of the new side is one of the old side
  pub no_more_of : (lone : List Lone) (ds : List Difference) → AreBetween old.side new.side lone ds → HaveNoGain lone ds
      → (q : Path) (p : ProcName) → GiveNoMore (old.rights q p) (new.rights q p)
  no_more_of lone ds are none q p = by (old.runs p) refl (new.runs p) refl (gives_more (old.rights q p) (new.rights q p)) refl
    where
      by : (a : Bool) → old.runs p ≡ a → (b : Bool) → new.runs p ≡ b → (c : Bool) → gives_more (old.rights q p) (new.rights q p) ≡ c
          → GiveNoMore (old.rights q p) (new.rights q p)
      by a e false f c m = nothing_more (old.rights q p) (new.rights q p) (new.blank q p f)
      by false e true f c m =
          absurd (true≢false (sym (sym (ap (λ ls. is_some (find process_cmp p (by_name ls))) none.0)
          ∙ (new_listed lone ds are p).1 (e, f))))
      by true e true f false m = no_more (old.rights q p) (new.rights q p) m
      by true e true f true m =
          absurd (true≢false (sym (sym (ap (λ gs. is_some (find pair_cmp (q, p) (by_pair gs))) none.1)
          ∙ (gain_listed lone ds are q p).1 (e, f, m))))

  -- if each letter of the new side is one of the old side, and a process that runs has a letter somewhere, there is no gain
  pub no_gain_of : (root : Path) → ((p : ProcName) → new.runs p ≡ true → (new.rights root p).stat ≡ true)
      → (lone : List Lone) (ds : List Difference) → AreBetween old.side new.side lone ds
      → ((q : Path) (p : ProcName) → GiveNoMore (old.rights q p) (new.rights q p)) → HaveNoGain lone ds
  no_gain_of root asks lone ds are each = (
    none_found process_cmp process_cmp_total process_cmp_exact (λ (l : Lone). l.process) (new_ones lone)
        (λ p. fails (is_some (find process_cmp p (by_name (new_ones lone)))) (λ found.
        let h = (new_listed lone ds are p).0 found in
        true≢false (sym ((each root p).stat (asks p h.1)) ∙ ap (λ (r : Rights). r.stat) (old.blank root p h.0)))),
    none_found pair_cmp pair_cmp_total pair_cmp_exact (λ (d : Difference). (d.path, d.process)) (gains ds)
        (λ k. fails (is_some (find pair_cmp k (by_pair (gains ds)))) (λ found.
        let h = (gain_listed lone ds are k.0 k.1).0 found in
        true≢false (sym h.2 ∙ gives_none (old.rights k.0 k.1) (new.rights k.0 k.1) (each k.0 k.1)))),
  )

  -- nothing is listed if the same processes run, with the same letters
  pub nothing_listed : ((p : ProcName) → old.runs p ≡ new.runs p) → ((q : Path) (p : ProcName) → old.rights q p ≡ new.rights q p)
      → AreBetween old.side new.side [] []
  nothing_listed same_runs same = record {
    lone_rising = tt;
    each_lone = λ p. not_lone p (old.side.user p) (new.side.user p) (old.user p ∙ same_runs p ∙ sym (new.user p));
    rising = tt;
    each = λ q p. no_difference q p (old.side.letters q p) (new.side.letters q p) (old.letters q p ∙ same q p ∙ sym (new.letters q p))
        (old.side.user p) (new.side.user p);
  }

-- two lists of exactly the differences of two sides are the same list, and so are those of lone processes
pub one_list : (old new : Side) (lone others : List Lone) (ds es : List Difference) → AreBetween old new lone ds → AreBetween old new others es
    → (lone ≡ others) × (ds ≡ es)
one_list old new lone others ds es a b = (
  same_list process_cmp process_cmp_total process_cmp_exact (λ (l : Lone). l.process) lone others a.lone_rising b.lone_rising
      (λ p. a.each_lone p ∙ sym (b.each_lone p)),
  same_list pair_cmp pair_cmp_total pair_cmp_exact (λ (d : Difference). (d.path, d.process)) ds es a.rising b.rising
      (λ k. a.each k.0 k.1 ∙ sym (b.each k.0 k.1)),
)
