-- The reads of each call, by its walk, its search or its label, and that they ask the expected questions.
use Rattle.std.proofs.Common.{◌≡◌, ℕ, ◌+◌, Bool, true, false, List, [], ◌∷◌, ◌++◌, Option, None, Some, map, refl, ap, subst, sym}
use Rattle.histar_flat.specs.declared.calls.UnixCall.{UnixCall}
use Rattle.histar_flat.specs.declared.calls.UnixCall.TheVariants.{List as ListCall, Stat, Rmdir, Status, Kill, Whoami, Login, Wrap}
use Rattle.histar_flat.specs.declared.replies.Errno.TheVariants.{EAGAIN}
use Rattle.histar_flat.specs.declared.replies.Reply.{Reply}
use Rattle.histar_flat.specs.declared.replies.Reply.TheVariants.{Stats, Refused}
use Rattle.histar_flat.specs.Words.{Path, ProcName}
use Rattle.histar_flat.specs.Accounts.{Accounts}
use Rattle.histar_flat.specs.Classes.{Process}
use Rattle.histar_flat.specs.FlatState.{Flat}
use Rattle.histar_flat.specs.CallRules.{path_of}
use Rattle.histar_object.specs.State.{State}
use Rattle.histar_rules.specs.declared.raw.RawCall.{RawCall}
use Rattle.histar_rules.specs.declared.raw.RawCall.TheVariants as raw
use Rattle.histar_rules.specs.Sound.{root_number}
use Rattle.histar_trace.specs.declared.entries.TraceEntry.{TraceEntry}
use Rattle.histar_programs.specs.Users.{place_of, password_of}
use Rattle.histar_refinement.specs.Lines.{IsStatusSegment, IsDirectoryAt, IsObjectAt}
use Rattle.histar_sim.specs.Reads.{Question, AreAmong, is_compared, tested, looked_at, walked, walked_into, walked_unless_full, label_asked}
use Rattle.histar_sim.specs.Reads.{password_asked, AskAll, HasReads}
use Rattle.histar_sim.specs.Reads.Question.{EntriesOf, StatusOf}

module _ (accounts : Accounts) where
  module _ (s : State) where
    -- these raw calls read the directory segments of these directories, one after another
    abbrev pub AreReadsOf : List Path → List RawCall → Type 0
    AreReadsOf [] calls = calls ≡ []
    AreReadsOf (d ∷ more) calls =
        (container : ℕ) × (listing : ℕ) × (later : List RawCall)
        × IsDirectoryAt accounts s d container listing × (calls ≡ raw.Read container listing ∷ later) × AreReadsOf more later

    -- among the entries are reads of the directories that the way into a directory tests
    abbrev pub HasWay : Flat → Process → Path → List TraceEntry → Type 0
    HasWay f p d entries = (calls : List RawCall) × AreReadsOf (tested accounts f p d) calls × AreAmong calls entries

    -- the walk to a path is the way into the directory that it lies in; to `/` there is no walk
    abbrev pub HasWalk : Flat → Process → Path → List TraceEntry → Type 0
    HasWalk f p [] entries = Unit {0}
    HasWalk f p (n ∷ d) entries = HasWay f p d entries

    -- the directories that the walk to a path tests for reading
    abbrev pub walked_paths : Flat → Process → Path → List Path
    walked_paths f p [] = []
    walked_paths f p (n ∷ d) = tested accounts f p d

    -- a wrap that has no room for a child makes no walk
    abbrev pub HasWalkUnlessFull : Flat → Process → Path → Reply → List TraceEntry → Type 0
    HasWalkUnlessFull f p q (Refused EAGAIN) entries = Unit {0}
    HasWalkUnlessFull f p q _ entries = HasWalk f p q entries

    -- a raw call that asks for the label of the object at a path, if the reply shows it
    abbrev pub AreLabelCalls : Path → Reply → List RawCall → Type 0
    AreLabelCalls q (Stats stat) calls =
        (container : ℕ) × (object : ℕ) × IsObjectAt accounts s q container object
        × (calls ≡ raw.LabelOf container object ∷ [])
    AreLabelCalls q _ calls = calls ≡ []

    -- among the entries are the reads of the walk to a path, and after them the raw call for the label, if there is one
    abbrev pub HasLabel : Flat → Process → Path → Reply → List TraceEntry → Type 0
    HasLabel f p q reply entries =
        (reads : List RawCall) × (labels : List RawCall) × AreReadsOf (walked_paths f p q) reads
        × AreLabelCalls q reply labels × AreAmong (reads ++ labels) entries

    -- these raw calls read the process segments of these processes, one after another
    abbrev pub AreStatusReads : List ProcName → List RawCall → Type 0
    AreStatusReads [] calls = calls ≡ []
    AreStatusReads (name ∷ more) calls =
        (container : ℕ) × (segment : ℕ) × (later : List RawCall)
        × IsStatusSegment accounts s name container segment × (calls ≡ raw.Read container segment ∷ later) × AreStatusReads more later

    -- among the entries are reads of the processes on the way to a name that are looked at
    abbrev pub HasSearch : Flat → Process → ProcName → List TraceEntry → Type 0
    HasSearch f p name entries = (calls : List RawCall) × AreStatusReads (looked_at accounts f p name) calls × AreAmong calls entries

    -- a directory that is to be removed is read itself, as the ones on the way are
    abbrev pub HasWayUnlessSlash : Flat → Process → Path → List TraceEntry → Type 0
    HasWayUnlessSlash f p [] entries = Unit {0}
    HasWayUnlessSlash f p (n ∷ d) entries = HasWay f p (n ∷ d) entries

  -- a login whose password was compared reads the user's password segment
  abbrev pub reads_of_login : Option ℕ → Bool → List RawCall
  reads_of_login None compared = []
  reads_of_login (Some place) false = []
  reads_of_login (Some place) true = raw.Read root_number (password_of (place + 1)) ∷ []

  -- among the entries are the reads that the call of a process cannot do without, so that what it replies was asked of the kernel
  abbrev pub HasReadsByCall : State → Flat → Process → UnixCall → Reply → List TraceEntry → Type 0
  HasReadsByCall s f p (ListCall path) reply entries = HasWay s f p path entries
  HasReadsByCall s f p (Stat path) reply entries = HasLabel s f p path reply entries
  HasReadsByCall s f p (Rmdir path) reply entries = HasWayUnlessSlash s f p path entries
  HasReadsByCall s f p (Status name) reply entries = HasSearch s f p name entries
  HasReadsByCall s f p (Kill name) reply entries = HasSearch s f p name entries
  HasReadsByCall s f p Whoami reply entries = AreAmong (raw.OwnLabel ∷ []) entries
  HasReadsByCall s f p (Login name password) reply entries = AreAmong (reads_of_login (place_of accounts.users name) (is_compared reply)) entries
  HasReadsByCall s f p (Wrap path) reply entries = HasWalkUnlessFull s f p path reply entries
  HasReadsByCall s f p call reply entries = HasWalk s f p (path_of call) entries

  module _ (s : State) (f : Flat) (p : Process) where
    -- the first questions, and the ones after them
    asked_then : (xs ys : List Question) (a b : List RawCall) → AskAll accounts s xs a → AskAll accounts s ys b
        → AskAll accounts s (xs ++ ys) (a ++ b)
    asked_then [] ys a b h k = subst (λ (c : List RawCall). AskAll accounts s ys (c ++ b)) (sym h) k
    asked_then (x ∷ xs) ys a b h k = (h.0, h.1 ++ b, h.2, ap (λ (c : List RawCall). c ++ b) h.3, asked_then xs ys h.1 b h.4 k)

    -- reads of directory segments ask for the entries of the directories
    asked_entries : (ds : List Path) (calls : List RawCall) → AreReadsOf s ds calls → AskAll accounts s (map EntriesOf ds) calls
    asked_entries [] calls h = h
    asked_entries (d ∷ more) calls h = (raw.Read h.0 h.1, h.2, (h.0, h.1, h.3, refl), h.4, asked_entries more h.2 h.5)

    -- reads of process segments ask for what they show
    asked_statuses : (names : List ProcName) (calls : List RawCall) → AreStatusReads s names calls → AskAll accounts s (map StatusOf names) calls
    asked_statuses [] calls h = h
    asked_statuses (name ∷ more) calls h = (raw.Read h.0 h.1, h.2, (h.0, h.1, h.3, refl), h.4, asked_statuses more h.2 h.5)

    -- the reads of a walk ask the questions of the walk
    asked_walk : (q : Path) (calls : List RawCall) → AreReadsOf s (walked_paths s f p q) calls → AskAll accounts s (walked accounts f p q) calls
    asked_walk [] calls h = h
    asked_walk (n ∷ d) calls h = asked_entries (tested accounts f p d) calls h

    -- a raw call for a label asks for it
    asked_label : (q : Path) (reply : Reply) (calls : List RawCall) → AreLabelCalls s q reply calls → AskAll accounts s (label_asked q reply) calls
    asked_label q (Stats stat) calls h = (raw.LabelOf h.0 h.1, [], (h.0, h.1, h.2, refl), h.3, refl)
    asked_label q reply calls h = h

    -- the questions of a walk are asked
    walk_due : (q : Path) (entries : List TraceEntry) → HasWalk s f p q entries
        → (calls : List RawCall) × AskAll accounts s (walked accounts f p q) calls × AreAmong calls entries
    walk_due [] entries h = ([], refl, tt)
    walk_due (n ∷ d) entries h = (h.0, asked_entries (tested accounts f p d) h.0 h.1, h.2)

    -- the questions of a call that looks into a directory that it removes are asked
    into_due : (q : Path) (entries : List TraceEntry) → HasWayUnlessSlash s f p q entries
        → (calls : List RawCall) × AskAll accounts s (walked_into accounts f p q) calls × AreAmong calls entries
    into_due [] entries h = ([], refl, tt)
    into_due (n ∷ d) entries h = (h.0, asked_entries (tested accounts f p (n ∷ d)) h.0 h.1, h.2)

    -- the questions of a wrap are asked
    wrap_due : (q : Path) (reply : Reply) (entries : List TraceEntry) → HasWalkUnlessFull s f p q reply entries
        → (calls : List RawCall) × AskAll accounts s (walked_unless_full accounts f p q reply) calls
        × AreAmong calls entries
    wrap_due q (Refused EAGAIN) entries h = ([], refl, tt)
    wrap_due q (Refused errno) entries h = walk_due q entries h
    wrap_due q reply entries h = walk_due q entries h

    -- the questions of a search are asked
    search_due : (name : ProcName) (entries : List TraceEntry) → HasSearch s f p name entries
        → (calls : List RawCall) × AskAll accounts s (map StatusOf (looked_at accounts f p name)) calls
        × AreAmong calls entries
    search_due name entries h = (h.0, asked_statuses (looked_at accounts f p name) h.0 h.1, h.2)

    -- the questions of a login are asked
    login_due : (place : Option ℕ) (compared : Bool) (entries : List TraceEntry)
        → AreAmong (reads_of_login place compared) entries
        → (calls : List RawCall) × AskAll accounts s (password_asked place compared) calls × AreAmong calls entries
    login_due None compared entries h = ([], refl, tt)
    login_due (Some place) false entries h = ([], refl, tt)
    login_due (Some place) true entries h = (
      raw.Read root_number (password_of (place + 1))
          ∷ [],
      (raw.Read root_number (password_of (place + 1)), [], refl, refl, refl),
      h,
    )

    -- the expected questions of a call are asked, if it has its reads
    pub reads_due : (call : UnixCall) (reply : Reply) (entries : List TraceEntry)
        → HasReadsByCall s f p call reply entries → HasReads accounts s f (Some p) call reply entries
    reads_due (ListCall path) reply entries h = (h.0, asked_entries (tested accounts f p path) h.0 h.1, h.2)
    reads_due (Stat path) reply entries h = (
      h.0
          ++ h.1,
      asked_then (walked accounts f p path) (label_asked path reply) h.0 h.1 (asked_walk path h.0 h.2)
          (asked_label path reply h.1 h.3),
      h.4,
    )
    reads_due (Rmdir path) reply entries h = into_due path entries h
    reads_due (Status name) reply entries h = search_due name entries h
    reads_due (Kill name) reply entries h = search_due name entries h
    reads_due Whoami reply entries h = (raw.OwnLabel ∷ [], (raw.OwnLabel, [], refl, refl, refl), h)
    reads_due (Login name password) reply entries h = login_due (place_of accounts.users name) (is_compared reply) entries h
    reads_due (Wrap path) reply entries h = wrap_due path reply entries h
    reads_due call reply entries h = walk_due (path_of call) entries h
