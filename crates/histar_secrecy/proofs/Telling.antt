-- Each trusted process tells, and only trusted processes do.
use Rattle.std.specs.Prelude.{◌≡◌, ◌≢◌, ℕ, suc, ◌+◌, ◌<◌, Bool, true, false, not, ◌&&◌, ◌||◌, cond, is_some, List, [], ◌∷◌, ◌++◌, length, Option}
use Rattle.std.specs.Prelude.{Some, None, option_map, refl}
use Rattle.std.specs.List.{list_all}
use Rattle.std.proofs.Common.{ap, sym, ◌∙◌, subst, inl, inr, arith}
use Rattle.std.proofs.lemmas.Bool.{true≢false, and_parts, not-true, cases_Bool, lt-ltb}
use Rattle.std.proofs.Math.Bool.{or-true}
use Rattle.histar_base.specs.Refusals.{◌orelse◌, unless}
use Rattle.histar_flat.specs.declared.calls.CallLine.{CallLine}
use Rattle.histar_flat.specs.declared.calls.UnixCall.{UnixCall}
use Rattle.histar_flat.specs.declared.calls.UnixCall.TheVariants.{Exit, Login, Read, Spawn, Status}
use Rattle.histar_flat.specs.declared.replies.Errno.TheVariants.{EACCES, EAGAIN, EAUTH, EISDIR, ENOENT, ENOTDIR, ESRCH}
use Rattle.histar_flat.specs.declared.replies.Reply.{Reply}
use Rattle.histar_flat.specs.declared.replies.Reply.TheVariants.{Child, Data, Done, Exited, Running}
use Rattle.histar_flat.specs.Words.{Name, Password, Path, ProcName, most_children, most_numbers}
use Rattle.histar_base.specs.Paths.{same}
use Rattle.histar_flat.specs.declared.calls.User.{User}
use Rattle.histar_flat.specs.Accounts.{Accounts, has, user_named}
use Rattle.histar_flat.specs.Files.{get}
use Rattle.histar_flat.specs.Classes.{Class, Process, is_free, knows, may_read, sees}
use Rattle.histar_flat.specs.FlatState.{Flat, IsTree, Node, bytes_at, bytes_of, class_of, into, is_dir, is_dir_at, is_file_at, is_some_and}
use Rattle.histar_flat.specs.FlatState.{with_bytes, with_child, with_process}
use Rattle.histar_flat.specs.FlatState.Content.{File}
use Rattle.histar_flat.specs.FlatCalls.{flat_after, flat_by, flat_or, if_running, life_reply, next_child, not_found, refused, reply_by, reply_or}
use Rattle.histar_flat.specs.FlatCalls.{reply_to, running}
use Rattle.histar_flat.specs.Meaning.{RepliedCall, answered_from}
use Rattle.histar_flat.proofs.Changes.{runs_is_there}
use Rattle.histar_flat.proofs.FileLemmas.{get_new, get_other, same_itself, same_name_found, same_path_found}
use Rattle.histar_flat.proofs.Secrecy.{AreKept, IsAlikeBut, flat_after_alike, reply_to_alike, veiled}
use Rattle.histar_flat.proofs.Trees.{put_into}
use Rattle.histar_flat.specs.Laws.{NamesAreGiven}
use Rattle.histar_noninterference.proofs.Kept.{put_cases}
use Rattle.histar_secrecy.specs.Logins.{is_password_of, logged_in}
use Rattle.histar_secrecy.specs.Ways.{reaches, reads_all, way_to}
use Rattle.histar_secrecy.specs.Roles.{is_bound, is_confined, is_outsider, is_trusted, logs_in_as_reader}
use Rattle.histar_secrecy.specs.Noninterference.{HasFile, IsReached}
use Rattle.histar_secrecy.specs.Release.{not_confined}
use Rattle.histar_secrecy.specs.Leaks.{AreOthers, IsFamily, IsListener, IsReader, Line, LoginsTell, LoginsTellHere, OnlyTrustedTell, OwnProgram}
use Rattle.histar_secrecy.specs.Leaks.{ReadersTell, ReadersTellByEnding, ReadersTellChildren, ReadersTellHere}
use Rattle.histar_secrecy.specs.Leaks.{Step, TrustIsLeast, TrustedCanTell}
use Rattle.histar_secrecy.specs.Leaks.{asking, replies_from, telling, telling_child, told}
use Rattle.histar_secrecy.specs.Leaks.Step.{Mine, Theirs}
use Rattle.histar_secrecy.proofs.Family.{append_nothing, family_birth, family_put, processes_are_a_tree}
use Rattle.histar_secrecy.proofs.Knowing.{AreJobs, jobs_at_end}
use Rattle.histar_secrecy.proofs.BoundJobs.{IsBegun}
use Rattle.histar_secrecy.proofs.Keepers.{allows_untrusted, silent_cast}
use Rattle.histar_secrecy.proofs.Learning.{roles_are_shown}
use Rattle.histar_secrecy.proofs.OtherBytes.{begun_there, file_there, other_bytes_differ}
use Rattle.histar_secrecy.proofs.Released.{Goes, runs_with}
use Rattle.histar_secrecy.proofs.Names.{child_of, grown, login_of}
use Rattle.histar_secrecy.proofs.Readers.{reads_all_as}
use Rattle.histar_secrecy.proofs.Veil.{ways_with_bytes}

-- ---- a process that reaches a file reads it

-- a class that may be read, of what is there
pub read_there : (accounts : Accounts) (p : Process) (o : Option Node) → is_some_and o (λ n. true) ≡ true → may_read accounts p (class_of o) ≡ true
    → is_some_and o (λ n. may_read accounts p n.class) ≡ true
read_there accounts p None there h = absurd (true≢false (sym there))
read_there accounts p (Some n) there h = h

-- a directory is there
pub dir_there : (o : Option Node) → is_some_and o is_dir ≡ true → is_some_and o (λ n. true) ≡ true
dir_there None h = absurd (true≢false (sym h))
dir_there (Some n) h = refl

-- no file is a directory
file_no_dir : (o : Option Node) → is_some_and o (λ n. not (is_dir n)) ≡ true → is_some_and o is_dir ≡ false
file_no_dir None h = refl
file_no_dir (Some n) h = not-true (is_dir n) h

pub file_is_some : (o : Option Node) → is_some_and o (λ n. not (is_dir n)) ≡ true → is_some_and o (λ n. true) ≡ true
file_is_some None h = absurd (true≢false (sym h))
file_is_some (Some n) h = refl

module _ (accounts : Accounts) (s : Flat) (tree : IsTree s) (p : Process) where
  -- a process that reads all of the way to a directory gets into it
  pub gets_into : (d : Path) → is_dir_at s d ≡ true → reads_all accounts (way_to s d) p ≡ true → into accounts s p d ≡ None
  gets_into [] dir h =
      let parts = and_parts (may_read accounts p (class_of (get s.files []))) true h in
      ap (λ b. unless b EACCES) (read_there accounts p (get s.files []) (dir_there (get s.files []) dir) parts.0)
  gets_into (n ∷ d) dir h =
      let parts = and_parts (may_read accounts p (class_of (get s.files (n ∷ d)))) (reads_all accounts (way_to s d) p) h in
      let there = dir_there (get s.files (n ∷ d)) dir in
      let before = gets_into d (tree.below n d there) parts.1 in
      let read = read_there accounts p (get s.files (n ∷ d)) there parts.0 in
      λ i. before i orelse unless (there i) ENOENT orelse unless (dir i) ENOTDIR orelse unless (read i) EACCES

  -- a process that reads all of the way to a file is not refused to read it
  pub not_refused : (me : ProcName) (path : Path) → is_file_at s path ≡ true → reads_all accounts (way_to s path) p ≡ true
      → refused accounts s me p (Read path) ≡ None
  not_refused me [] file h = absurd (true≢false (sym tree.root ∙ no_dir (get s.files []) file))
    where
      no_dir : (o : Option Node) → is_some_and o (λ n. not (is_dir n)) ≡ true → is_some_and o is_dir ≡ false
      no_dir None h = refl
      no_dir (Some n) h = not-true (is_dir n) h
  not_refused me (n ∷ d) file h =
      let parts = and_parts (may_read accounts p (class_of (get s.files (n ∷ d)))) (reads_all accounts (way_to s d) p) h in
      let there = file_is_some (get s.files (n ∷ d)) file in
      let walked = gets_into d (tree.below n d there) parts.1 in
      let read = read_there accounts p (get s.files (n ∷ d)) there parts.0 in
      λ i. (walked i orelse unless (there i) ENOENT orelse unless (file i) EISDIR) orelse unless (read i) EACCES

  -- it is answered the bytes, and nothing changes
  pub is_read : (me : ProcName) → running s me ≡ Some p → (path : Path) → is_file_at s path ≡ true → reads_all accounts (way_to s path) p ≡ true
      → (reply_to accounts s me (Read path) ≡ Data (bytes_at s path)) × (flat_after accounts s me (Read path) ≡ s)
  is_read me runs path file h =
      let passes = not_refused me path file h in (
        ap (λ o. reply_by accounts s me o (Read path)) runs ∙ ap (λ e. reply_or e (Data (bytes_at s path))) passes,
        ap (λ o. flat_by accounts s me o (Read path)) runs ∙ ap (λ e. flat_or e s s) passes,
      )

-- ---- a process that knows all jobs of another finds it

seen_before : (test : ProcName → Bool) (jobs inner : List ProcName) → list_all test (jobs ++ inner) ≡ true → list_all test jobs ≡ true
seen_before test [] inner h = refl
seen_before test (job ∷ jobs) inner h =
    let parts = and_parts (test job) (list_all test (jobs ++ inner)) h in λ i. parts.0 i && seen_before test jobs inner parts.1 i

pub is_found : (s : Flat) → IsFamily s → (q : Process) (x : ProcName) (y : Process) → s.processes x ≡ Some y → sees q y ≡ true
    → not_found s q x ≡ None
is_found s family q [] y there h = refl
is_found s family q (n ∷ x) y there h =
    let parent = family n x y there in
    let above = is_found s family q x parent.0 parent.1
    (seen_before (knows q) parent.0.chain parent.2 (sym (ap (list_all (knows q)) parent.3) ∙ h)) in
    (λ i. above i orelse unless (is_some (there i)) ESRCH orelse unless (is_some_and (there i) (sees q)) EACCES)
    ∙ ap (λ b. unless b EACCES) h

-- a tree stays one when a file gets other bytes
pub bytes_tree : (f : Flat) → IsTree f → (path : Path) → is_file_at f path ≡ true → (bytes : List ℕ) → IsTree (with_bytes f path bytes)
bytes_tree f tree [] e bytes = absurd (true≢false (sym tree.root ∙ file_no_dir (get f.files []) e))
bytes_tree f tree (n ∷ d) e bytes =
    put_into f tree n d (record { class = class_of (get f.files (n ∷ d)); content = File bytes })
    (tree.below n d (file_is_some (get f.files (n ∷ d)) e)) (λ h. absurd (true≢false (sym h ∙ file_no_dir (get f.files (n ∷ d)) e)))

-- the processes are a tree too once a child was born and its parent has exited
family_put_over : (f : Flat) → NamesAreGiven f → IsFamily f → (me : ProcName) (p : Process) → f.processes me ≡ Some p → (n : ℕ)
    → IsFamily (with_process (with_child f me p p.chain) me (record (grown p) { exited = Some n }))
family_put_over f names family me p here n k x child there = elim
    (put_cases (with_child f me p p.chain) me (record (grown p) { exited = Some n }) (k ∷ x) child there) [
      | inl t ↦ moved_up (born_family k x (grown p) (ap (with_child f me p p.chain).processes (sym t.0) ∙ parent_there)) (sym (ap (λ z. z.chain) t.1))
      | inr t ↦ moved_up (born_family k x child t) refl
    ]
  where
    born_family : IsFamily (with_child f me p p.chain)
    born_family = family_birth f names family me p here (grown p) (child_of p p.chain) [] refl (sym (append_nothing p.chain))

    parent_there : (with_child f me p p.chain).processes me ≡ Some (grown p)
    parent_there = elim (same_name_found (next_child me p) me) [
      | inl t ↦ let same_length : suc (length me) ≡ length me = ap length t.1 in absurd (omega (arith, same_length))
      | inr t ↦
          ap (λ b. cond b (Some (child_of p p.chain)) (cond (same me me) (Some (grown p)) (f.processes me))) t.0
          ∙ ap (λ b. cond b (Some (grown p)) (f.processes me)) (same_itself me)
    ]

    moved_up : {chain other : List ProcName} → (parent : Process) × ((with_child f me p p.chain).processes x ≡ Some parent) × (inner : List ProcName)
        × (chain ≡ parent.chain ++ inner) → other ≡ chain → (parent : Process)
        × ((with_process (with_child f me p p.chain) me (record (grown p) { exited = Some n })).processes x ≡ Some parent)
        × (inner : List ProcName) × (other ≡ parent.chain ++ inner)
    moved_up (parent, at, inner, e) same_chain = elim (same_name_found me x) [
      | inl t ↦
          let found : Some (grown p) ≡ Some parent = sym parent_there ∙ ap (with_child f me p p.chain).processes t.1 ∙ at in
          let one : grown p ≡ parent = cc in (
            record (grown p) { exited = Some n },
            ap (λ b. cond b (Some (record (grown p) { exited = Some n })) ((with_child f me p p.chain).processes x)) t.0,
            inner,
            same_chain ∙ e ∙ ap (λ z. z.chain ++ inner) (sym one),
          )
      | inr t ↦ (
        parent,
        ap (λ b. cond b (Some (record (grown p) { exited = Some n })) ((with_child f me p p.chain).processes x)) t.0
            ∙ at,
        inner,
        same_chain ∙ e,
      )
    ]

-- ---- the attack

module _ (accounts : Accounts) (f : Flat) (reached : IsReached accounts f) (path : Path) (file : is_file_at f path ≡ true) (me : ProcName)
    (p : Process)
    (reader : IsReader accounts f path me p) where
  jobs : AreJobs f
  jobs = subst AreJobs reached.1 (jobs_at_end accounts reached.0)

  family : IsFamily f
  family = subst IsFamily reached.1 (processes_are_a_tree accounts reached.0)

  here : f.processes me ≡ Some p
  here = runs_is_there (f.processes me) p reader.runs

  module _ (bytes : List ℕ) where
    abbrev g : Flat
    g = with_bytes f path bytes

    new : Node
    new = record { class = class_of (get f.files path); content = File bytes }

    at : get g.files path ≡ Some (record { class = class_of (get f.files path); content = File bytes })
    at = get_new f.files path (record { class = class_of (get f.files path); content = File bytes })

    tree : IsTree g
    tree = bytes_tree f jobs.tree path file bytes

    -- it reads the bytes
    reads_them : (reply_to accounts g me (Read path) ≡ Data bytes) × (flat_after accounts g me (Read path) ≡ g)
    reads_them =
        let read = is_read accounts g tree p me reader.runs path (ap (λ o. is_some_and o (λ n. not (is_dir n))) at)
        (ap (λ way. reads_all accounts way p) (ways_with_bytes f path bytes path) ∙ reader.reaches) in
        (read.0 ∙ ap (λ o. Data (bytes_of o)) at, read.1)

    -- then it exits
    module _ (n : ℕ) where
      abbrev ended : Flat
      ended = with_process g me (record p { exited = Some n })

      exits : (reply_to accounts g me (Exit n) ≡ Done) × (flat_after accounts g me (Exit n) ≡ ended)
      exits = (ap (λ o. reply_by accounts g me o (Exit n)) reader.runs, ap (λ o. flat_by accounts g me o (Exit n)) reader.runs)

      module _ (other : ProcName) (q : Process) (listener : IsListener accounts f path p other q) where
        -- the other is another one
        apart : me ≢ other
        apart e =
            let found : Some p ≡ Some q = sym reader.runs ∙ ap (running f) e ∙ listener.runs in
            let one : p ≡ q = cc in
            true≢false (sym reader.reaches ∙ ap (λ z. reads_all accounts (way_to f path) z) one ∙ listener.reaches_not)

        still_runs : running ended other ≡ Some q
        still_runs = elim (same_name_found me other) [
          | inl t ↦ absurd (apart t.1)
          | inr t ↦ ap (λ b. if_running (cond b (Some (record p { exited = Some n })) (f.processes other))) t.0 ∙ listener.runs
        ]

        there : ended.processes me ≡ Some (record p { exited = Some n })
        there = ap (λ b. cond b (Some (record p { exited = Some n })) (f.processes me)) (same_itself me)

        found : not_found ended q me ≡ None
        found = is_found ended (family_put f jobs.names family me p here (record p { exited = Some n }) refl) q me
            (record p { exited = Some n }) there listener.sees

        -- and the other is answered the number
        pub is_told : reply_to accounts ended other (Status me) ≡ Exited n
        is_told =
            ap (λ o. reply_by accounts ended other o (Status me)) still_runs
            ∙ ap (λ e. reply_or e (life_reply (ended.processes me))) found ∙ ap life_reply there

        pub tells : replies_from accounts g (telling me other path n) ≡ Data bytes ∷ Done ∷ Exited n ∷ []
        tells =
            (λ i. reads_them.0 i ∷ reply_to accounts (reads_them.1 i) me (Exit n)
            ∷ reply_to accounts (flat_after accounts (reads_them.1 i) me (Exit n)) other (Status me) ∷ [])
            ∙ (λ i. Data bytes ∷ exits.0 i ∷ reply_to accounts (exits.1 i) other (Status me) ∷ [])
            ∙ (λ i. Data bytes ∷ Done ∷ is_told i ∷ [])

        -- before it exits the other is told that it runs
        asked_before : (reply_to accounts g other (Status me) ≡ Running) × (flat_after accounts g other (Status me) ≡ g)
        asked_before =
            let found_there : not_found g q me ≡ None = is_found g family q me p here listener.sees in (
              ap (λ o. reply_by accounts g other o (Status me)) listener.runs ∙ ap (λ e. reply_or e (life_reply (g.processes me))) found_there
                  ∙ ap life_reply here ∙ it_runs p (sym (ap if_running here) ∙ reader.runs),
              ap (λ o. flat_by accounts g other o (Status me)) listener.runs ∙ ap (λ e. flat_or e g g) found_there,
            )
          where
            it_runs : (z : Process) → if_running (Some z) ≡ Some z → life_reply (Some z) ≡ Running
            it_runs z e = by z.exited e
              where
                by : (x : Option ℕ) → (let o : Option Process = elim x [ None ↦ Some z | Some n ↦ None ] in o) ≡ Some z
                    → (let r : Reply = elim x [ None ↦ Running | Some n ↦ Exited n ] in r) ≡ Running
                by None e = refl
                by (Some n) e = absurd (cc)

        pub tells_by_ending : replies_from accounts g (asking me other path n) ≡ Data bytes ∷ Running ∷ Done ∷ Exited n ∷ []
        tells_by_ending =
            (λ i. reads_them.0 i ∷ reply_to accounts (reads_them.1 i) other (Status me)
            ∷ reply_to accounts (flat_after accounts (reads_them.1 i) other (Status me)) me (Exit n)
            ∷ reply_to accounts (flat_after accounts (flat_after accounts (reads_them.1 i) other (Status me)) me (Exit n)) other (Status me) ∷ [])
            ∙ (λ i. Data bytes ∷ asked_before.0 i ∷ reply_to accounts (asked_before.1 i) me (Exit n)
            ∷ reply_to accounts (flat_after accounts (asked_before.1 i) me (Exit n)) other (Status me) ∷ [])
            ∙ (λ i. Data bytes ∷ Running ∷ exits.0 i ∷ reply_to accounts (exits.1 i) other (Status me) ∷ [])
            ∙ (λ i. Data bytes ∷ Running ∷ Done ∷ is_told i ∷ [])

pub readers_tell_by_ending : ReadersTellByEnding
readers_tell_by_ending accounts f reached path file me other p q reader listener bytes n =
    tells_by_ending accounts f reached path file me p reader bytes n other q listener

-- two states with the same at each path have the same replies
same_replies : (accounts : Accounts) (calls : List Line) (s t : Flat) → IsAlikeBut (λ c. false) s t
    → replies_from accounts s calls ≡ replies_from accounts t calls
same_replies accounts [] s t alike = refl
same_replies accounts (c ∷ calls) s t alike =
    let nobody = no_reader (running s c.0) in
    let here = reply_to_alike accounts (λ c. false) (λ p. false) kept s t alike c.0 c.1 nobody in
    let rest = same_replies accounts calls (flat_after accounts s c.0 c.1) (flat_after accounts t c.0 c.1)
    (flat_after_alike accounts (λ c. false) (λ p. false) kept s t alike c.0 c.1 nobody) in
    λ i. here i ∷ rest i
  where
    no_reader : (o : Option Process) → is_some_and o (λ p. false) ≡ false
    no_reader None = refl
    no_reader (Some p) = refl

    kept : AreKept accounts (λ c. false) (λ p. false)
    kept = record { unread = λ p c other h. refl; unwritten = λ p c other h. refl }

-- a file with its own bytes is what it was
own_bytes_alike : (f : Flat) (path : Path) → is_file_at f path ≡ true → IsAlikeBut (λ c. false) f (with_bytes f path (bytes_at f path))
own_bytes_alike f path file =
    let there = file_there f path file in
    record {
      files = λ r. ap (option_map (veiled (λ c. false))) (elim (same_path_found r path) [
        | inl e ↦
            ap (get f.files) e.1 ∙ there.2
            ∙ sym (ap (get (with_bytes f path (bytes_at f path)).files) e.1
            ∙ get_new f.files path (record { class = class_of (get f.files path); content = File (bytes_at f path) })
            ∙ ap (λ o. Some (record { class = class_of o; content = File (bytes_of o) })) there.2)
        | inr e ↦ sym (get_other f.files path (record { class = class_of (get f.files path); content = File (bytes_at f path) }) r e.1)
      ]);
      processes = refl;
    }

pub readers_tell_here : ReadersTellHere
readers_tell_here accounts f reached path file me other p q reader listener n =
    same_replies accounts (asking me other path n) f (with_bytes f path (bytes_at f path)) (own_bytes_alike f path file)
    ∙ readers_tell_by_ending accounts f reached path file me other p q reader listener (bytes_at f path) n

pub readers_tell : ReadersTell
readers_tell accounts f reached path file me other p q reader listener bytes n =
    tells accounts f reached path file me p reader bytes n other q listener

-- ---- a child

module _ (accounts : Accounts) (f : Flat) (reached : IsReached accounts f) (path : Path) (file : is_file_at f path ≡ true) (me : ProcName)
    (p : Process)
    (reader : IsReader accounts f path me p) (left : p.born < most_children) (short : length me < most_numbers) (bytes : List ℕ) (n : ℕ) where
  abbrev with_bytes_there : Flat
  with_bytes_there = with_bytes f path bytes

  abbrev grown_p : Process
  grown_p = grown p

  abbrev child : Process
  child = child_of p p.chain

  abbrev born_f : Flat
  born_f = with_child f me p p.chain

  abbrev born : Flat
  born = with_child with_bytes_there me p p.chain

  abbrev ended_p : Process
  ended_p = record grown_p { exited = Some n }

  abbrev over : Flat
  over = with_process born me ended_p

  spawns : (reply_to accounts with_bytes_there me Spawn ≡ Child (next_child me p)) × (flat_after accounts with_bytes_there me Spawn ≡ born)
  spawns = (
    ap (λ o. reply_by accounts with_bytes_there me o Spawn) reader.runs ∙ ap (λ e. reply_or e (Child (next_child me p))) may,
    ap (λ o. flat_by accounts with_bytes_there me o Spawn) reader.runs ∙ ap (λ e. flat_or e with_bytes_there born) may,
  )
    where
      may : refused accounts with_bytes_there me p Spawn ≡ None
      may = λ i. unless (lt-ltb p.born most_children left i) EAGAIN orelse unless (lt-ltb (length me) most_numbers short i) EAGAIN

  not_me : same (next_child me p) me ≡ false
  not_me = elim (same_name_found (next_child me p) me) [
    | inl t ↦ absurd (longer me (p.born + 1) t.1)
    | inr t ↦ t.0
  ]
    where
      longer : (x : ProcName) (k : ℕ) → k ∷ x ≡ x → ⊥
      longer x k e = let same_length : suc (length x) ≡ length x = ap length e in omega (arith, same_length)

  grown_runs : running born me ≡ Some grown_p
  grown_runs =
      ap (λ b. if_running (cond b (Some child) (cond (same me me) (Some grown_p) (f.processes me)))) not_me
      ∙ ap (λ b. if_running (cond b (Some grown_p) (f.processes me))) (same_itself me) ∙ runs_still
    where
      runs_still : if_running (Some grown_p) ≡ Some grown_p
      runs_still = by p reader.runs
        where
          exited_is : (x : Option ℕ) (q : Process) → (let r : Option Process = elim x [ None ↦ Some q | Some n ↦ None ] in r) ≡ Some q
              → (z : Process) → (let r : Option Process = elim x [ None ↦ Some z | Some n ↦ None ] in r) ≡ Some z
          exited_is None q e z = refl
          exited_is (Some k) q e z = absurd (cc)

          by : (q : Process) → running f me ≡ Some q → if_running (Some grown_p) ≡ Some grown_p
          by q e = exited_is p.exited p (sym (ap if_running (runs_is_there (f.processes me) p reader.runs)) ∙ reader.runs) grown_p

  exits_too : (reply_to accounts born me (Exit n) ≡ Done) × (flat_after accounts born me (Exit n) ≡ over)
  exits_too = (ap (λ o. reply_by accounts born me o (Exit n)) grown_runs, ap (λ o. flat_by accounts born me o (Exit n)) grown_runs)

  child_told : reply_to accounts over (next_child me p) (Status me) ≡ Exited n
  child_told =
      ap (λ o. reply_by accounts over (next_child me p) o (Status me)) child_runs
      ∙ ap (λ e. reply_or e (life_reply (over.processes me))) found_it ∙ ap life_reply there_it
    where
      not_child : same me (next_child me p) ≡ false
      not_child = elim (same_name_found me (next_child me p)) [
        | inl t ↦ absurd (true≢false (sym (same_itself me) ∙ ap (λ x. same x me) t.1 ∙ not_me))
        | inr t ↦ t.0
      ]

      child_runs : running over (next_child me p) ≡ Some child
      child_runs =
          ap (λ b. if_running (cond b (Some ended_p) (born.processes (next_child me p)))) not_child
          ∙ ap (λ b. if_running (cond b (Some child) ((with_process f me grown_p).processes (next_child me p)))) (same_itself (next_child me p))

      there_it : over.processes me ≡ Some ended_p
      there_it = ap (λ b. cond b (Some ended_p) (born.processes me)) (same_itself me)

      jobs_f : AreJobs f
      jobs_f = subst AreJobs reached.1 (jobs_at_end accounts reached.0)

      family_f : IsFamily f
      family_f = subst IsFamily reached.1 (processes_are_a_tree accounts reached.0)

      here_f : f.processes me ≡ Some p
      here_f = runs_is_there (f.processes me) p reader.runs

      sees_all : (jobs : List ProcName) (others : List ProcName) → ((job : ProcName) → has jobs job ≡ true → has others job ≡ true)
          → list_all (λ job. has others job || false) jobs ≡ true
      sees_all [] others h = refl
      sees_all (job ∷ jobs) others h =
          λ i. (ap (λ b. b || false) (h job (ap (λ b. b || has jobs job) (same_itself job)))) i
          && sees_all jobs others (λ k u. h k (ap (λ b. same k job || b) u ∙ or-true (same k job))) i

      family_over : IsFamily over
      family_over = family_put_over f jobs_f.names family_f me p here_f n

      found_it : not_found over child me ≡ None
      found_it = is_found over family_over child me ended_p there_it (sees_all p.chain p.chain (λ job h. h))

  pub tells_child : replies_from accounts with_bytes_there (telling_child me p path n) ≡ Data bytes ∷ Child (next_child me p) ∷ Done ∷ Exited n ∷ []
  tells_child =
      let read = reads_them accounts f reached path file me p reader bytes in
      (λ i. read.0 i ∷ reply_to accounts (read.1 i) me Spawn ∷ reply_to accounts (flat_after accounts (read.1 i) me Spawn) me (Exit n)
      ∷ reply_to accounts (flat_after accounts (flat_after accounts (read.1 i) me Spawn) me (Exit n)) (next_child me p) (Status me) ∷ [])
      ∙ (λ i. Data bytes ∷ spawns.0 i ∷ reply_to accounts (spawns.1 i) me (Exit n)
      ∷ reply_to accounts (flat_after accounts (spawns.1 i) me (Exit n)) (next_child me p) (Status me) ∷ [])
      ∙ (λ i. Data bytes ∷ Child (next_child me p) ∷ exits_too.0 i ∷ reply_to accounts (exits_too.1 i) (next_child me p) (Status me) ∷ [])
      ∙ (λ i. Data bytes ∷ Child (next_child me p) ∷ Done ∷ child_told i ∷ [])

pub readers_tell_children : ReadersTellChildren
readers_tell_children accounts f reached path file me p reader left short bytes n =
    tells_child accounts f reached path file me p reader left short bytes n

-- ---- a login

module _ (accounts : Accounts) (f : Flat) (reached : IsReached accounts f) (path : Path) (file : is_file_at f path ≡ true) (me : ProcName)
    (p : Process)
    (runs : running f me ≡ Some p) (free : is_free p ≡ true) (name : Name) (password : Password)
    (right : is_password_of accounts name password ≡ true) (reaches_it : reaches accounts f (logged_in name) path ≡ true) (bytes : List ℕ) where
  abbrev h : Flat
  h = with_bytes f path bytes

  abbrev q : Process
  q = login_of p name

  abbrev after : Flat
  after = with_process h me q

  may : refused accounts h me p (Login name password) ≡ None
  may = λ i. unless (known right i) ENOENT orelse unless (free i) EACCES orelse unless (right i) EAUTH
    where
      known : is_password_of accounts name password ≡ true → is_some (user_named accounts.users name) ≡ true
      known t = by (user_named accounts.users name) t
        where
          by : (o : Option User) → is_some_and o (λ u. same u.password password) ≡ true → is_some o ≡ true
          by None h = absurd (true≢false (sym h))
          by (Some u) h = refl

  logs_in : (reply_to accounts h me (Login name password) ≡ Done) × (flat_after accounts h me (Login name password) ≡ after)
  logs_in = (
    ap (λ o. reply_by accounts h me o (Login name password)) runs ∙ ap (λ e. reply_or e Done) may,
    ap (λ o. flat_by accounts h me o (Login name password)) runs ∙ ap (λ e. flat_or e h after) may,
  )

  jobs_f : AreJobs f
  jobs_f = subst AreJobs reached.1 (jobs_at_end accounts reached.0)

  runs_q : running after me ≡ Some q
  runs_q = ap (λ b. if_running (cond b (Some q) (f.processes me))) (same_itself me) ∙ still
    where
      exited_is : (x : Option ℕ) (r : Process) → (let o : Option Process = elim x [ None ↦ Some r | Some n ↦ None ] in o) ≡ Some r
          → (z : Process) → (let o : Option Process = elim x [ None ↦ Some z | Some n ↦ None ] in o) ≡ Some z
      exited_is None r e z = refl
      exited_is (Some k) r e z = absurd (cc)

      still : if_running (Some q) ≡ Some q
      still = exited_is p.exited p (sym (ap if_running (runs_is_there (f.processes me) p runs)) ∙ runs) q

  read_then : reply_to accounts after me (Read path) ≡ Data bytes
  read_then =
      let tree_g = bytes_tree f jobs_f.tree path file bytes in
      let at : get h.files path ≡ Some (record { class = class_of (get f.files path); content = File bytes }) =
      get_new f.files path (record { class = class_of (get f.files path); content = File bytes }) in
      (is_read accounts after (record { root = tree_g.root; below = tree_g.below }) q me runs_q path
      (ap (λ o. is_some_and o (λ n. not (is_dir n))) at)
      (ap (λ way. reads_all accounts way q) (ways_with_bytes f path bytes path)
      ∙ reads_all_as accounts (logged_in name) q (way_to f path) refl (λ job c k. absurd (true≢false (sym k))) reaches_it)).0
      ∙ ap (λ o. Data (bytes_of o)) at

  login_tells : replies_from accounts h ((me, Login name password) ∷ (me, Read path) ∷ []) ≡ Done ∷ Data bytes ∷ []
  login_tells =
      (λ i. logs_in.0 i ∷ reply_to accounts (logs_in.1 i) me (Read path) ∷ []) ∙ (λ i. Done ∷ read_then i ∷ [])

pub logins_tell : LoginsTell
logins_tell accounts f reached path file me p runs free name password right reaches_it bytes =
    login_tells accounts f reached path file me p runs free name password right reaches_it bytes

pub logins_tell_here : LoginsTellHere
logins_tell_here accounts f reached path file me p runs free name password right reaches_it =
    same_replies accounts ((me, Login name password) ∷ (me, Read path) ∷ []) f (with_bytes f path (bytes_at f path)) (own_bytes_alike f path file)
    ∙ logins_tell accounts f reached path file me p runs free name password right reaches_it (bytes_at f path)

-- ---- trust is exact

-- the program: it reads the file, and exits with 0 if it is empty, and else with 1
abbrev tell_tale : Path → OwnProgram
tell_tale path [] = Read path
tell_tale path (Data [] ∷ before) = Exit 0
tell_tale path (_ ∷ before) = Exit 1

pub trusted_can_tell : TrustedCanTell
trusted_can_tell accounts f reached path file me p runs trusted other q runs_too outside seen = record {
  one = [];
  other = 48 ∷ [];
  program = tell_tale path;
  steps = Mine ∷ Mine ∷ Theirs other (Status me) ∷ [];
  quiet = quiet;
  others = (λ e. apart accounts f reached path file me p reader [] 0 other q listener (sym e), outside, refl, tt);
  differ = λ e. let no : Exited 0 ∷ [] ≡ Exited 1 ∷ [] = sym (run [] 0 refl) ∙ e ∙ run (48 ∷ []) 1 refl in absurd (cc);
}
  where
    quiet : (before : List Reply) → logs_in_as_reader accounts (way_to f path) (tell_tale path before) ≡ false
    quiet [] = refl
    quiet (Data [] ∷ before) = refl
    quiet (Data (b ∷ bs) ∷ before) = refl
    quiet (_ ∷ before) = refl

    reader : IsReader accounts f path me p
    reader = record {
      runs = runs;
      reaches = (and_parts (reads_all accounts (way_to f path) p) (not (is_bound accounts (way_to f path) p))
          (sym (roles_are_shown accounts f reached path me p runs).trusted ∙ trusted)).0;
    }

    listener : IsListener accounts f path p other q
    listener = record {
      runs = runs_too;
      reaches_not = not-true (reads_all accounts (way_to f path) q)
          (sym (roles_are_shown accounts f reached path other q runs_too).outside ∙ outside);
      sees = seen;
    }

    run : (bytes : List ℕ) (n : ℕ) → tell_tale path (Data bytes ∷ []) ≡ Exit n
        → told accounts me (tell_tale path) [] (with_bytes f path bytes) (Mine ∷ Mine ∷ Theirs other (Status me) ∷ []) ≡ Exited n ∷ []
    run bytes n says =
        let read = reads_them accounts f reached path file me p reader bytes in
        let ends = exits accounts f reached path file me p reader bytes n in
        (λ i. told accounts me (tell_tale path) (read.0 i ∷ []) (read.1 i) (Mine ∷ Theirs other (Status me) ∷ []))
        ∙ (λ i. reply_to accounts (flat_after accounts (with_bytes f path bytes) me (says i)) other (Status me) ∷ [])
        ∙ (λ i. reply_to accounts (ends.1 i) other (Status me) ∷ [])
        ∙ (λ i. is_told accounts f reached path file me p reader bytes n other q listener i ∷ [])

-- a call with its reply
abbrev replied : ProcName → UnixCall → Reply → RepliedCall
replied x call r = record { call = record { line = 0; process = x; call = call }; reply = r }

-- the calls of a run from the state s on
abbrev lines : Accounts → ProcName → OwnProgram → List Reply → Flat → List Step → List CallLine
lines accounts me program before s [] = []
lines accounts me program before s (Mine ∷ steps) =
    record { line = 0; process = me; call = program before }
    ∷ lines accounts me program (reply_to accounts s me (program before) ∷ before) (flat_after accounts s me (program before)) steps
lines accounts me program before s (Theirs other call ∷ steps) =
    record { line = 0; process = other; call = call } ∷ lines accounts me program before (flat_after accounts s other call) steps

module _ (accounts : Accounts) (way : List Class) (f : Flat) (me : ProcName) (program : OwnProgram) where
  -- the calls of those who are not confined, with their replies
  abbrev shown : List Reply → Flat → List Step → List RepliedCall
  shown before s steps = not_confined (is_confined accounts way f) (λ x. false) []
      (answered_from accounts s (lines accounts me program before s steps))

  -- two runs go alike
  abbrev GoAlike : List RepliedCall → List RepliedCall → Type 0
  GoAlike as' bs = Goes (is_trusted accounts way f) (allows_untrusted accounts way f) as' bs

  -- the calls with this one in front, unless its process is confined
  abbrev longer : Bool → RepliedCall → List RepliedCall → List RepliedCall
  longer c a as' = cond (c || false) as' (a ∷ as')

  -- a line of a confined process is not shown
  hidden_line : is_confined accounts way f me ≡ true → (a b : RepliedCall) (as' bs : List RepliedCall)
      → GoAlike (longer (is_confined accounts way f me) a as') (longer (is_confined accounts way f me) b bs) → GoAlike as' bs
  hidden_line inside a b as' bs go = subst (λ c. GoAlike (longer c a as') (longer c b bs)) inside go

  -- a line of an outsider is answered alike
  outside_line : (x : ProcName) (call : UnixCall) → is_confined accounts way f x ≡ false → is_trusted accounts way f x ≡ false
      → logs_in_as_reader accounts way call ≡ false → (r u : Reply) (as' bs : List RepliedCall)
      → GoAlike (longer (is_confined accounts way f x) (replied x call r) as') (longer (is_confined accounts way f x) (replied x call u) bs)
      → (r ≡ u) × GoAlike as' bs
  outside_line x call free untrusted away r u as' bs go =
      let bare : GoAlike (replied x call r ∷ as') (replied x call u ∷ bs) =
      subst (λ c. GoAlike (longer c (replied x call r) as') (longer c (replied x call u) bs)) free go in
      let goes = bare refl refl (λ i. not (untrusted i) && not (away i)) in
      (goes.0 untrusted, goes.1 (λ may. goes.0 untrusted))

  their_line : (x : ProcName) (call : UnixCall) → is_outsider accounts way f x ≡ true → logs_in_as_reader accounts way call ≡ false
      → (r u : Reply) (as' bs : List RepliedCall)
      → GoAlike (longer (is_confined accounts way f x) (replied x call r) as') (longer (is_confined accounts way f x) (replied x call u) bs)
      → (r ≡ u) × GoAlike as' bs
  their_line x call outside away r u as' bs go =
      let parts = and_parts (not (is_trusted accounts way f x)) (not (is_confined accounts way f x)) outside in
      outside_line x call (not-true (is_confined accounts way f x) parts.1) (not-true (is_trusted accounts way f x) parts.0) away r u as' bs go

  -- a confined process tells nothing
  by_confined : is_confined accounts way f me ≡ true → (steps : List Step) → AreOthers accounts way f me steps → (before past : List Reply)
      → (s t : Flat) → GoAlike (shown before s steps) (shown past t steps)
      → told accounts me program before s steps ≡ told accounts me program past t steps
  by_confined inside [] others before past s t go = refl
  by_confined inside (Mine ∷ steps) others before past s t go =
      let r = reply_to accounts s me (program before) in
      let u = reply_to accounts t me (program past) in
      let s' = flat_after accounts s me (program before) in
      let t' = flat_after accounts t me (program past) in
      by_confined inside steps others (r ∷ before) (u ∷ past) s' t' (hidden_line inside (replied me (program before) r)
      (replied me (program past) u) (shown (r ∷ before) s' steps) (shown (u ∷ past) t' steps) go)
  by_confined inside (Theirs other call ∷ steps) others before past s t go =
      let s' = flat_after accounts s other call in
      let t' = flat_after accounts t other call in
      let line = their_line other call others.1 others.2 (reply_to accounts s other call) (reply_to accounts t other call) (shown before s' steps)
      (shown past t' steps) go in
      let rest = by_confined inside steps others.3 before past s' t' line.1 in
      λ i. line.0 i ∷ rest i

  -- an outsider that logs in as no reader tells nothing
  by_outsider : is_confined accounts way f me ≡ false → is_trusted accounts way f me ≡ false
      → ((before : List Reply) → logs_in_as_reader accounts way (program before) ≡ false) → (steps : List Step) → AreOthers accounts way f me steps
      → (before : List Reply) (s t : Flat) → GoAlike (shown before s steps) (shown before t steps)
      → told accounts me program before s steps ≡ told accounts me program before t steps
  by_outsider outside silent quiet [] others before s t go = refl
  by_outsider outside silent quiet (Mine ∷ steps) others before s t go =
      let r = reply_to accounts s me (program before) in
      let u = reply_to accounts t me (program before) in
      let s' = flat_after accounts s me (program before) in
      let t' = flat_after accounts t me (program before) in
      let line = outside_line me (program before) outside silent (quiet before) r u (shown (r ∷ before) s' steps) (shown (u ∷ before) t' steps) go in
      by_outsider outside silent quiet steps others (r ∷ before) s' t'
      (subst (λ z. GoAlike (shown (r ∷ before) s' steps) (shown (z ∷ before) t' steps)) (sym line.0) line.1)
      ∙ ap (λ z. told accounts me program (z ∷ before) t' steps) line.0
  by_outsider outside silent quiet (Theirs other call ∷ steps) others before s t go =
      let s' = flat_after accounts s other call in
      let t' = flat_after accounts t other call in
      let line = their_line other call others.1 others.2 (reply_to accounts s other call) (reply_to accounts t other call) (shown before s' steps)
      (shown before t' steps) go in
      let rest = by_outsider outside silent quiet steps others.3 before s' t' line.1 in
      λ i. line.0 i ∷ rest i

pub only_trusted_tell : OnlyTrustedTell
only_trusted_tell accounts f reached path file me can = elim (cases_Bool (is_trusted accounts (way_to f path) f me)) [
  | inl t ↦ t
  | inr t ↦ absurd (can.differ (elim (cases_Bool (is_confined accounts (way_to f path) f me)) [
    | inl c ↦ by_confined accounts (way_to f path) f me can.program c can.steps can.others [] [] one other go
    | inr c ↦ by_outsider accounts (way_to f path) f me can.program c t can.quiet can.steps can.others [] one other go
  ]))
]
  where
    one : Flat
    one = with_bytes f path can.one

    other : Flat
    other = with_bytes f path can.other

    there : HasFile f path (way_to f path)
    there = record { file = file; classes = refl }

    begun : IsBegun accounts (way_to f path) f
    begun = begun_there accounts f reached path

    go : GoAlike accounts (way_to f path) f me can.program (shown accounts (way_to f path) f me can.program [] (with_bytes f path can.one) can.steps)
        (shown accounts (way_to f path) f me can.program [] (with_bytes f path can.other) can.steps)
    go =
        runs_with begun (silent_cast begun) (with_bytes f path can.one) (with_bytes f path can.other)
        (other_bytes_differ f path (way_to f path) there can.one) (other_bytes_differ f path (way_to f path) there can.other)
        (lines accounts me can.program [] (with_bytes f path can.one) can.steps)
        (lines accounts me can.program [] (with_bytes f path can.other) can.steps)

pub trust_is_least : TrustIsLeast
trust_is_least = record {
  enough = λ accounts f reached path file me can. only_trusted_tell accounts f reached path file me can;
  least = λ accounts f reached path file set enough me p runs trusted other q runs_too outside seen.
      enough me (trusted_can_tell accounts f reached path file me p runs trusted other q runs_too outside seen);
}
