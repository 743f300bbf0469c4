-- The paths of a state are a tree, and each call keeps them one.
use Rattle.std.specs.Prelude.{◌≡◌, ◌≢◌, Bool, true, false, not, ◌||◌, cond, List, [], ◌∷◌, Option, Some, None, refl}
use Rattle.std.proofs.Common.{◌⊎◌, ap, inl, inr, sym, ◌∙◌, subst}
use Rattle.std.proofs.lemmas.Bool.{true≢false, or_parts, not-true}
use Rattle.histar_flat.specs.declared.calls.CallLine.{CallLine}
use Rattle.histar_flat.specs.declared.calls.UnixCall.{UnixCall}
use Rattle.histar_flat.specs.declared.replies.Errno.TheVariants.{ENOENT, ENOTDIR, EACCES}
use Rattle.histar_flat.specs.Words.{Name, Path, ProcName}
use Rattle.histar_base.specs.Paths.{same, same_path}
use Rattle.histar_flat.specs.PathOrder.{under_path}
use Rattle.histar_flat.specs.Accounts.{Accounts}
use Rattle.histar_flat.specs.Files.{empty, get, insert}
use Rattle.histar_flat.specs.Classes.{Process}
use Rattle.histar_flat.specs.Classes.Class.{Readable, Scratch}
use Rattle.histar_flat.specs.FlatState.{Flat, Node, IsTree, is_some_and, is_dir, is_there, is_dir_at, reads, class_of, into, with_node, without_below}
use Rattle.histar_flat.specs.FlatState.{with_renamed, moved}
use Rattle.histar_flat.specs.FlatState.Content.{Dir, File}
use Rattle.histar_flat.specs.FlatCalls.{inner_chain, flat_after}
use Rattle.histar_flat.specs.Meaning.{first_user, boot, flat_end}
use Rattle.histar_flat.proofs.FileLemmas.{Found, same_path_found, get_other, get_new, get-keep}
use Rattle.histar_flat.proofs.Refusals.{three_pass}
use Rattle.histar_flat.proofs.Under.{above_is_not_under}
use Rattle.histar_flat.proofs.Renaming.{stays, get_renamed}
use Rattle.histar_flat.proofs.Changes.{EachChange, by_line}

-- where a walk ends there is a directory
pub walked_into_directory : (accounts : Accounts) (f : Flat) (p : Process) → is_dir_at f [] ≡ true → (d : Path)
    → into accounts f p d ≡ None → is_dir_at f d ≡ true
walked_into_directory accounts f p root [] h = root
walked_into_directory accounts f p root (n ∷ d) h =
    (three_pass (into accounts f p d) (is_there f (n ∷ d)) (is_dir_at f (n ∷ d)) (reads accounts f p (n ∷ d)) ENOENT
    ENOTDIR EACCES h).2

-- something is there, or nothing
there_or_nothing : (o : Option Node) → (is_some_and o (λ n. true) ≡ true) ⊎ (o ≡ None)
there_or_nothing None = inr refl
there_or_nothing (Some n) = inl refl

-- a file is something, and is no directory
file_is_there : (o : Option Node) → is_some_and o (λ n. not (is_dir n)) ≡ true → (is_some_and o (λ n. true) ≡ true) × (is_some_and o is_dir ≡ false)
file_is_there None h = absurd (true≢false (sym h))
file_is_there (Some n) h = (refl, not-true (is_dir n) h)

-- what is left after a cut was there, and does not lie below the cut
left_was_there : (under : Bool) (o : Option Node) → is_some_and (cond (not under) o None) (λ n. true) ≡ true
    → (under ≡ false) × (is_some_and o (λ n. true) ≡ true)
left_was_there true o h = absurd (true≢false (sym h))
left_was_there false o h = (refl, h)

-- what is at a path after a rename was at another, and does not lie below the old one
came_from_there : (under : Bool) (o : Option Node) → is_some_and (cond under None o) (λ n. true) ≡ true
    → (under ≡ false) × (is_some_and o (λ n. true) ≡ true)
came_from_there true o h = absurd (true≢false (sym h))
came_from_there false o h = (refl, h)

module _ (f : Flat) (tree : IsTree f) where
  -- below a path with nothing there is nothing
  pub nothing_below : (q : Path) → get f.files q ≡ None → (r : Path) → under_path q r ≡ true → get f.files r ≡ None
  nothing_below q free [] h = elim (same_path_found q []) [
    | inl e ↦ ap (get f.files) (sym e.1) ∙ free
    | inr e ↦ absurd (true≢false (sym h ∙ e.0))
  ]
  nothing_below q free (n ∷ d) h = elim (same_path_found q (n ∷ d)) [
    | inl e ↦ ap (get f.files) (sym e.1) ∙ free
    | inr e ↦ elim (there_or_nothing (get f.files (n ∷ d))) [
      | inl t ↦
          let above = nothing_below q free d (sym (ap (λ b. b || under_path q d) e.0) ∙ h) in
          absurd (true≢false (sym (tree.below n d t) ∙ ap (λ o. is_some_and o is_dir) above))
      | inr t ↦ t
    ]
  ]

  -- an entry can be put into a directory, if no directory is replaced by a file
  pub put_into : (n : Name) (d : Path) (x : Node) → is_dir_at f d ≡ true
      → (is_dir_at f (n ∷ d) ≡ true → is_dir x ≡ true) → IsTree (with_node f (n ∷ d) x.class x.content)
  put_into n d x into_directory no_loss = record {
    root = kept [] tree.root;
    below = λ m e there. elim (same_path_found (m ∷ e) (n ∷ d)) [
      | inl t ↦ let tails : d ≡ e = cc in subst (λ r. is_dir_at (with_node f (n ∷ d) x.class x.content) r ≡ true) tails (kept d into_directory)
      | inr t ↦ kept e (tree.below m e (sym (ap (λ o. is_some_and o (λ n. true)) (get_other f.files (n ∷ d) x (m ∷ e) t.1)) ∙ there))
    ];
  }
    where
      kept : (r : Path) → is_dir_at f r ≡ true → is_dir_at (with_node f (n ∷ d) x.class x.content) r ≡ true
      kept r dir = elim (same_path_found r (n ∷ d)) [
        | inl t ↦
            ap (λ o. is_some_and o is_dir) (ap (get (insert f.files (n ∷ d) x)) t.1 ∙ get_new f.files (n ∷ d) x)
            ∙ no_loss (ap (is_dir_at f) (sym t.1) ∙ dir)
        | inr t ↦ ap (λ o. is_some_and o is_dir) (get_other f.files (n ∷ d) x r t.1) ∙ dir
      ]

  -- anything can be made at a path with nothing
  made : (n : Name) (d : Path) (x : Node) → is_dir_at f d ≡ true → get f.files (n ∷ d) ≡ None → IsTree (with_node f (n ∷ d) x.class x.content)
  made n d x dir free = put_into n d x dir (λ h. absurd (true≢false (sym h ∙ ap (λ o. is_some_and o is_dir) free)))

  -- a tree stays one when an entry is removed with all below it
  cut : (n : Name) (d : Path) → IsTree (without_below f (n ∷ d))
  cut n d = record {
    root = ap (λ o. is_some_and o is_dir) (left []) ∙ tree.root;
    below = λ m e there.
        let was =
        left_was_there (under_path (n ∷ d) (m ∷ e)) (get f.files (m ∷ e))
        (sym (ap (λ o. is_some_and o (λ n. true)) (left (m ∷ e))) ∙ there) in
        let out = or_parts (same_path (n ∷ d) (m ∷ e)) (under_path (n ∷ d) e) was.0 in
        ap (λ o. is_some_and o is_dir) (left e ∙ ap (λ b. cond (not b) (get f.files e) None) out.1) ∙ tree.below m e was.1;
  }
    where
      left : (r : Path) → get (without_below f (n ∷ d)).files r ≡ cond (not (under_path (n ∷ d) r)) (get f.files r) None
      left r = get-keep f.files (λ t. not (under_path (n ∷ d) t)) r

  -- a tree stays one when an entry is renamed with all below it
  renamed : (n k : Name) (d : Path) → n ≢ k → get f.files (k ∷ d) ≡ None → IsTree (with_renamed f (n ∷ d) (k ∷ d))
  renamed n k d other free = record {
    root = ap (λ o. is_some_and o is_dir) (comes []) ∙ tree.root;
    below =
        λ m e there.
        by m e (same_path_found (k ∷ d) (m ∷ e)) (came_from_there (under_path (n ∷ d) (m ∷ e)) (get f.files (from (m ∷ e)))
        (sym (ap (λ o. is_some_and o (λ n. true)) (comes (m ∷ e))) ∙ there));
  }
    where
      from : Path → Path
      from = moved (k ∷ d) (n ∷ d)

      comes : (r : Path) → get (with_renamed f (n ∷ d) (k ∷ d)).files r ≡ cond (under_path (n ∷ d) r) None (get f.files (from r))
      comes r = get_renamed n k d other f.files (nothing_below (k ∷ d) free) r

      comes_here : (r : Path) → under_path (n ∷ d) r ≡ false → is_dir_at f (from r) ≡ true → is_dir_at (with_renamed f (n ∷ d) (k ∷ d)) r ≡ true
      comes_here r out dir = ap (λ o. is_some_and o is_dir) (comes r ∙ ap (λ b. cond b None (get f.files (from r))) out) ∙ dir

      by : (m : Name) (e : Path) → Found (same_path (k ∷ d) (m ∷ e)) (k ∷ d) (m ∷ e)
          → (under_path (n ∷ d) (m ∷ e) ≡ false) × (is_there f (from (m ∷ e)) ≡ true)
          → is_dir_at (with_renamed f (n ∷ d) (k ∷ d)) e ≡ true
      by m e (inl t) h =
          let tails : d ≡ e = cc in
          let there : is_there f (n ∷ d) ≡ true = sym (ap (λ b. is_there f (cond b (n ∷ d) (m ∷ from e))) t.0) ∙ h.1 in
          subst (λ r. is_dir_at (with_renamed f (n ∷ d) (k ∷ d)) r ≡ true) tails
          (comes_here d (above_is_not_under same same_path_found d n)
          (ap (is_dir_at f) (stays (k ∷ d) (n ∷ d) d (above_is_not_under same same_path_found d k))
          ∙ tree.below n d there))
      by m e (inr t) h =
          let there : is_there f (m ∷ from e) ≡ true = sym (ap (λ b. is_there f (cond b (n ∷ d) (m ∷ from e))) t.0) ∙ h.1 in
          comes_here e (or_parts (same_path (n ∷ d) (m ∷ e)) (under_path (n ∷ d) e) h.0).1 (tree.below m (from e) there)

  -- Each change leaves a tree.
  tree_changes : (accounts : Accounts) (me : ProcName) (p : Process) (call : UnixCall) → EachChange accounts f me p call IsTree
  tree_changes accounts me p call = record {
    stays = tree;
    makes = λ n d x walked free w own mode made_is. made n d x (walked_into_directory accounts f p tree.root d walked) free;
    overwrites = λ n d bytes file w.
        let here = file_is_there (get f.files (n ∷ d)) file in
        put_into n d (record { class = class_of (get f.files (n ∷ d)); content = File bytes }) (tree.below n d here.0)
        (λ h. absurd (true≢false (sym h ∙ here.1)));
    cuts = λ n d away w. cut n d;
    renames = λ n k d away other free w. renamed n k d other free;
    spawns = λ is. record { root = tree.root; below = tree.below };
    exits = λ n is. record { root = tree.root; below = tree.below };
    logs_in = λ name is known free. record { root = tree.root; below = tree.below };
    kills = λ n. record { root = tree.root; below = tree.below };
    wraps = λ n d is walked free w other.
        let t =
        made n d (record { class = Scratch p.user (inner_chain me p); content = Dir })
        (walked_into_directory accounts f p tree.root d walked) free in
        record { root = t.root; below = t.below };
  }

  -- each line leaves a tree
  pub tree_after : (accounts : Accounts) (me : ProcName) (call : UnixCall) → IsTree (flat_after accounts f me call)
  tree_after accounts me call = by_line accounts f me call IsTree tree (λ p runs. tree_changes accounts me p call)

-- all lines leave a tree
pub tree_at_end : (accounts : Accounts) (f : Flat) → IsTree f → (calls : List CallLine) → IsTree (flat_end accounts f calls)
tree_at_end accounts f tree [] = tree
tree_at_end accounts f tree (c ∷ calls) =
    tree_at_end accounts (flat_after accounts f c.process c.call) (tree_after f tree accounts c.process c.call) calls

-- at the start there is `/` alone
pub tree_at_start : (accounts : Accounts) → IsTree (boot accounts)
tree_at_start accounts =
    record {
      root = refl;
      below = λ n d there. absurd
          (true≢false (sym there ∙ ap (λ (o : Option Node). is_some_and o (λ n. true)) (nothing_else n d)));
    }
  where
    nothing_else : (n : Name) (d : Path) → get (boot accounts).files (n ∷ d) ≡ None
    nothing_else n d = get_other empty [] (record { class = Readable (first_user accounts.users); content = Dir }) (n ∷ d) (λ e. cc)

-- In each state that calls lead to the paths are a tree.
pub paths_are_a_tree : (accounts : Accounts) (calls : List CallLine) → IsTree (flat_end accounts (boot accounts) calls)
paths_are_a_tree accounts calls = tree_at_end accounts (boot accounts) (tree_at_start accounts) calls
