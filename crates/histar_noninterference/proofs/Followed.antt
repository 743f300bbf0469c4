-- Each line leaves the directory of a job where its call and its reply determine.
use Rattle.std.specs.Prelude.{Bool, List, None, Option, Some, [], cond, false, not, refl, true, ◌&&◌, ◌||◌, ◌∷◌, ◌≡◌}
use Rattle.std.proofs.Common.{ap, inl, inr, sym, ◌∙◌}
use Rattle.std.proofs.lemmas.Bool.{and_parts, true≢false, cases_Bool}
use Rattle.histar_base.specs.Refusals.{unless, ◌orelse◌}
use Rattle.histar_flat.specs.declared.calls.CallLine.{CallLine}
use Rattle.histar_flat.specs.declared.calls.UnixCall.{UnixCall}
use Rattle.histar_flat.specs.declared.calls.UnixCall.TheVariants.{Rename, Rmdir, Rmtree, Unlink, Wrap}
use Rattle.histar_flat.specs.declared.replies.Errno.{Errno}
use Rattle.histar_flat.specs.declared.replies.Errno.TheVariants.{EEXIST, EPERM}
use Rattle.histar_flat.specs.declared.replies.Reply.{Reply}
use Rattle.histar_flat.specs.declared.replies.Reply.TheVariants.{Gone, Refused}
use Rattle.histar_flat.specs.Classes.{Process, carries, may_write, nobody}
use Rattle.histar_flat.specs.Classes.Class.{Readable, Scratch}
use Rattle.histar_flat.specs.Files.{empty, get, insert}
use Rattle.histar_flat.specs.CallRules.{rule}
use Rattle.histar_flat.specs.Effects.Effect.{Wraps}
use Rattle.histar_flat.specs.FlatCalls.{answer, changed, flat_after, flat_by, flat_or, inner_chain, next_child, refused, reply_by, reply_or, reply_to}
use Rattle.histar_flat.specs.FlatCalls.{running}
use Rattle.histar_flat.proofs.CommonNeeds.{no_child, no_room}
use Rattle.histar_flat.specs.FlatState.{Flat, IsTree, Node, class_of, into, is_dir, is_given, is_some_and, writes}
use Rattle.histar_flat.specs.FlatState.Content.{Dir, File}
use Rattle.histar_flat.specs.Laws.{NamesAreGiven, takes_away}
use Rattle.histar_flat.specs.Meaning.{answered_from, boot, first_user, flat_end, meaning}
use Rattle.histar_base.specs.Paths.{same}
use Rattle.histar_flat.specs.PathOrder.{under_path}
use Rattle.histar_flat.specs.Accounts.{Accounts, has}
use Rattle.histar_flat.specs.Words.{Name, Path, ProcName}
use Rattle.histar_flat.proofs.Changes.{EachChange, by_line, rename_tests, room_tests, runs_is_there}
use Rattle.histar_flat.proofs.FileLemmas.{get_new, get_other, same_path_found}
use Rattle.histar_flat.proofs.GivenNames.{given_after, names_are_given_once, next_is_new}
use Rattle.histar_flat.proofs.JobLaws.{writes_of_job}
use Rattle.histar_flat.proofs.Refusals.{passes_first, passes_later}
use Rattle.histar_flat.proofs.Trees.{paths_are_a_tree, tree_after, walked_into_directory}
use Rattle.histar_flat.proofs.Under.{under_itself}
use Rattle.histar_flat.proofs.WrappedJobs.{has_last}
use Rattle.histar_noninterference.specs.Comparison.{is_dir_of, lies_in_job}
use Rattle.histar_noninterference.specs.Following.{FindsLeftOut, after_reply, directory_of, followed, lies_below}
use Rattle.histar_noninterference.proofs.Following.{IsFollowed, cut_followed, lies_at, lies_at_entry, put_followed, rename_followed}
use Rattle.histar_noninterference.proofs.Kept.{file_is_no_dir}
use Rattle.histar_noninterference.proofs.Outside.{lies_below_it}
use Rattle.histar_noninterference.proofs.TestLemmas.{has_longer, is_same, left_holds, none_some, not_passed}

-- a line is answered `gone` or refused, and changes nothing, or it is answered, and changes the state
by_reply : (accounts : Accounts) (f : Flat) (me : ProcName) (call : UnixCall) (Q : Flat → Reply → Type 0) → Q f Gone
    → ((e : Errno) → Q f (Refused e))
    → ((p : Process) → f.processes me ≡ Some p → refused accounts f me p call ≡ None → Q (changed accounts f me p call) (answer f me p call))
    → Q (flat_after accounts f me call) (reply_to accounts f me call)
by_reply accounts f me call Q gone refusal passes = by (running f me) refl
  where
    step : (p : Process) → f.processes me ≡ Some p → (e : Option Errno) → refused accounts f me p call ≡ e
        → Q (flat_or e f (changed accounts f me p call)) (reply_or e (answer f me p call))
    step p here None is = passes p here is
    step p here (Some e) is = refusal e

    by : (o : Option Process) → running f me ≡ o → Q (flat_by accounts f me o call) (reply_by accounts f me o call)
    by None e = gone
    by (Some p) e = step p (runs_is_there (f.processes me) p e) (refused accounts f me p call) refl

module _ (job : ProcName) (accounts : Accounts) (f : Flat) (tree : IsTree f) (names : NamesAreGiven f) (directory : Option Path)
    (h : IsFollowed job f directory) (me : ProcName) where
  -- a directory that a process of the job writes is of the job
  writes_dir_of : (p : Process) (o : Option Node) → has p.chain job ≡ true → is_some_and o is_dir ≡ true
      → is_some_and o (λ n. may_write accounts p n.class) ≡ true → is_dir_of job o ≡ true
  writes_dir_of p None inside dir w = absurd (true≢false (sym dir))
  writes_dir_of p (Some n) inside dir w = (λ i. dir i && carries job n.class) ∙ writes_of_job accounts p job inside n.class w

  -- what such a process makes lies at the followed directory or below it
  made_inside : (p : Process) (n : Name) (d : Path) → into accounts f p d ≡ None → writes accounts f p d ≡ true → has p.chain job ≡ true
      → lies_at directory (n ∷ d) ≡ true
  made_inside p n d walked w inside =
      lies_at_entry directory n d (h.carried d
      (writes_dir_of p (get f.files d) inside (walked_into_directory accounts f p tree.root d walked) w))

  -- a call that removes nothing, renames nothing and starts no job leaves the directory where it is
  plain_changes : (call : UnixCall) → ((q : Path) → takes_away call q ≡ false) → ((rule call).effect ≡ Wraps → ⊥)
      → (p : Process) → EachChange accounts f me p call (λ g. IsFollowed job g directory)
  plain_changes call takes_none no_wrap p = record {
    stays = h;
    makes = λ n d x walked free w own mode made_is. put_followed job f directory h (n ∷ d) x (ap (is_dir_of job) free)
        (λ is. made_inside p n d walked w (own job (and_parts (is_dir x) (carries job x.class) is).1));
    overwrites = λ n d bytes file w. put_followed job f directory h (n ∷ d)
        (record { class = class_of (get f.files (n ∷ d)); content = File bytes })
        (file_is_no_dir job (get f.files (n ∷ d)) file) (λ is. absurd (true≢false (sym is)));
    cuts = λ n d takes w. absurd (taken n d takes);
    renames = λ n k d takes ne free w. absurd (taken n d takes);
    spawns = λ is. record { carried = h.carried; there = h.there };
    exits = λ n is. record { carried = h.carried; there = h.there };
    logs_in = λ name is known free. record { carried = h.carried; there = h.there };
    kills = λ n. record { carried = h.carried; there = h.there };
    wraps = λ n d is walked free w named. absurd (no_wrap is);
  }
    where
      taken : (n : Name) (d : Path) → ((q : Path) → takes_away call q ≡ under_path (n ∷ d) q) → ⊥
      taken n d takes = true≢false (sym (under_itself same same_path_found (n ∷ d)) ∙ sym (takes (n ∷ d)) ∙ takes_none (n ∷ d))

  plain_line : (call : UnixCall) → ((q : Path) → takes_away call q ≡ false) → ((rule call).effect ≡ Wraps → ⊥)
      → IsFollowed job (flat_after accounts f me call) directory
  plain_line call takes_none no_wrap =
      by_line accounts f me call (λ g. IsFollowed job g directory) h (λ p runs. plain_changes call takes_none no_wrap p)

  -- after a `wrap` that is not refused, the directory of its job is at its path
  wrapped : (p : Process) → f.processes me ≡ Some p → (n : Name) (d : Path) → refused accounts f me p (Wrap (n ∷ d)) ≡ None
      → (b : Bool) → same job (next_child me p) ≡ b
      → IsFollowed job (changed accounts f me p (Wrap (n ∷ d))) (cond b (Some (n ∷ d)) directory)
  wrapped p here n d passes true is = record {
    carried = λ q dir. elim (same_path_found q (n ∷ d)) [
      | inl t ↦ ap (under_path (n ∷ d)) t.1 ∙ under_itself same same_path_found (n ∷ d)
      | inr t ↦ absurd (none_before q (get f.files q) refl (ap (is_dir_of job) (sym (get_other f.files (n ∷ d) scratch q t.1)) ∙ dir))
    ];
    there = λ q e.
        let one : n ∷ d ≡ q = cc in
        ap (λ z. is_dir_of job (get (insert f.files (n ∷ d) scratch) z)) (sym one)
        ∙ ap (is_dir_of job) (get_new f.files (n ∷ d) scratch) ∙ ap (has (inner_chain me p)) job_is ∙ has_last p.chain (next_child me p);
  }
    where
      scratch : Node
      scratch = record { class = Scratch p.user (inner_chain me p); content = Dir }

      job_is : job ≡ next_child me p
      job_is = is_same job (next_child me p) is

      none_before : (q : Path) (o : Option Node) → get f.files q ≡ o → is_dir_of job o ≡ true → ⊥
      none_before q None at dir = true≢false (sym dir)
      none_before q (Some y) at dir =
          true≢false (sym (names.of_carried_jobs q y job at (and_parts (is_dir y) (carries job y.class) dir).1) ∙ ap
          (is_given f.processes) job_is ∙ next_is_new f me p here)
  wrapped p here n d passes false is =
      let room = passes_first (no_room accounts f p (n ∷ d)) (unless (not (same p.user nobody)) EPERM)
      (passes_later (no_child me p) (no_room accounts f p (n ∷ d) orelse unless (not (same p.user nobody)) EPERM) passes) in
      let tests = room_tests accounts f p n d room in
      let x : Node = record { class = Scratch p.user (inner_chain me p); content = Dir } in
      let put = put_followed job f directory h (n ∷ d) x (ap (is_dir_of job) tests.1)
      (λ dir. made_inside p n d tests.0 tests.2 (sym (has_longer p.chain (next_child me p) job is) ∙ dir)) in
      record { carried = put.carried; there = put.there }

  -- Each line leaves the directory where its call and its reply determine.
  pub line_followed : (call : UnixCall)
      → IsFollowed job (flat_after accounts f me call) (after_reply job directory call (reply_to accounts f me call))
  line_followed (Wrap q) =
      by_reply accounts f me (Wrap q) (λ g reply. IsFollowed job g (after_reply job directory (Wrap q) reply)) h (λ e. h) (by q)
    where
      by : (q : Path) (p : Process) → f.processes me ≡ Some p → refused accounts f me p (Wrap q) ≡ None
          → IsFollowed job (changed accounts f me p (Wrap q)) (after_reply job directory (Wrap q) (answer f me p (Wrap q)))
      by [] p here passes = absurd (not_passed _ refl (passes_later (no_child me p) (Some EEXIST) passes))
      by (n ∷ d) p here passes = wrapped p here n d passes (same job (next_child me p)) refl
  line_followed (Unlink q) =
      by_reply accounts f me (Unlink q) (λ g reply. IsFollowed job g (after_reply job directory (Unlink q) reply)) h (λ e. h)
      (λ p here passes. cut_followed job f directory h q)
  line_followed (Rmdir q) =
      by_reply accounts f me (Rmdir q) (λ g reply. IsFollowed job g (after_reply job directory (Rmdir q) reply)) h (λ e. h)
      (λ p here passes. cut_followed job f directory h q)
  line_followed (Rmtree q) =
      by_reply accounts f me (Rmtree q) (λ g reply. IsFollowed job g (after_reply job directory (Rmtree q) reply)) h (λ e. h)
      (λ p here passes. cut_followed job f directory h q)
  line_followed (Rename q name) =
      by_reply accounts f me (Rename q name) (λ g reply. IsFollowed job g (after_reply job directory (Rename q name) reply)) h (λ e. h)
      (by q)
    where
      by : (q : Path) (p : Process) → f.processes me ≡ Some p → refused accounts f me p (Rename q name) ≡ None
          → IsFollowed job (changed accounts f me p (Rename q name))
          (after_reply job directory (Rename q name) (answer f me p (Rename q name)))
      by [] p here passes = absurd (not_passed _ refl passes)
      by (n ∷ d) p here passes =
          let tests = rename_tests accounts f me p n name d passes in rename_followed job f directory h tree n name d tests.0 tests.1
  line_followed call = plain_line call (λ q. refl) (λ e. cc)

-- All lines leave the directory where their calls and replies determine.
all_followed : (job : ProcName) (accounts : Accounts) (f : Flat) → IsTree f → NamesAreGiven f → (directory : Option Path)
    → IsFollowed job f directory → (calls : List CallLine)
    → IsFollowed job (flat_end accounts f calls) (directory_of job directory (answered_from accounts f calls))
all_followed job accounts f tree names directory h [] = h
all_followed job accounts f tree names directory h (c ∷ calls) =
    all_followed job accounts (flat_after accounts f c.process c.call) (tree_after f tree accounts c.process c.call)
    (given_after accounts f c.process c.call tree names)
    (followed job directory c (reply_to accounts f c.process c.call))
    (line_followed job accounts f tree names directory h c.process c.call) calls

-- at the start no directory is of the job
followed_at_start : (job : ProcName) (accounts : Accounts) → IsFollowed job (boot accounts) None
followed_at_start job accounts = record { carried = none; there = λ p e. absurd (none_some p e) }
  where
    slash : Node
    slash = record { class = Readable (first_user accounts.users); content = Dir }

    none : (q : Path) → is_dir_of job (get (boot accounts).files q) ≡ true → lies_at None q ≡ true
    none [] is = is
    none (n ∷ d) is = sym (ap (is_dir_of job) (get_other empty [] slash (n ∷ d) (λ e. cc))) ∙ is

-- what lies below directories of the job lies below the followed directory
followed_is_left_out : (job : ProcName) (f : Flat) (directory : Option Path) → IsFollowed job f directory → (q : Path)
    → lies_in_job job f.files q ≡ lies_below directory q
followed_is_left_out job f directory h [] = at_root directory
  where
    at_root : (o : Option Path) → false ≡ lies_below o []
    at_root None = refl
    at_root (Some p) = refl
followed_is_left_out job f directory h (n ∷ d) =
    either (is_dir_of job (get f.files d) || lies_in_job job f.files d) (lies_at directory d) (up d) (down directory refl) ∙ below directory
  where
    either : (a b : Bool) → (a ≡ true → b ≡ true) → (b ≡ true → a ≡ true) → a ≡ b
    either true b there back = sym (there refl)
    either false true there back = back refl
    either false false there back = refl

    up : (q : Path) → (is_dir_of job (get f.files q) || lies_in_job job f.files q) ≡ true → lies_at directory q ≡ true
    up [] c = h.carried [] (left_holds (is_dir_of job (get f.files [])) false refl c)
    up (x ∷ e) c = elim (cases_Bool (is_dir_of job (get f.files (x ∷ e)))) [
      | inl dir ↦ h.carried (x ∷ e) dir
      | inr no_dir ↦ lies_at_entry directory x e (up e (sym (ap (λ b. b || lies_in_job job f.files (x ∷ e)) no_dir) ∙ c))
    ]

    down : (o : Option Path) → directory ≡ o → lies_at o d ≡ true → (is_dir_of job (get f.files d) || lies_in_job job f.files d) ≡ true
    down None is u = absurd (true≢false (sym u))
    down (Some p) is u = lies_below_it job f.files p (ap (λ b. b || lies_in_job job f.files p) (h.there p is)) d u

    below : (o : Option Path) → lies_at o d ≡ lies_below o (n ∷ d)
    below None = refl
    below (Some p) = refl

-- What lies below directories of a job is what lies below the followed directory.
pub finds_left_out : FindsLeftOut
finds_left_out accounts calls job q =
    followed_is_left_out job (flat_end accounts (boot accounts) calls) (directory_of job None (meaning accounts calls))
    (all_followed job accounts (boot accounts) (paths_are_a_tree accounts []) (names_are_given_once.old accounts []) None
    (followed_at_start job accounts) calls) q
