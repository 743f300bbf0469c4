-- What a refusal implies by itself of its reason, whoever made the call.
use Rattle.std.specs.Prelude.{◌≡◌, ℕ, Bool, true, false, ◌&&◌, List, [], ◌∷◌, length, Option, None, Some, MatchOption, option_map}
use Rattle.std.specs.List.{list_any}
use Rattle.histar_flat.specs.declared.replies.Errno.{Errno}
use Rattle.histar_flat.specs.declared.replies.Errno.TheVariants.{EEXIST, EISDIR, EBUSY, ENOENT, EACCES}
use Rattle.histar_flat.specs.declared.replies.Reply.{Reply}
use Rattle.histar_flat.specs.declared.replies.Reply.TheVariants.{Refused}
use Rattle.histar_flat.specs.Words.{Path, ProcName}
use Rattle.histar_flat.specs.Classes.{Process}
use Rattle.histar_level.specs.Levels.{Levels}
use Rattle.histar_object.specs.State.{State}
use Rattle.histar_object.specs.Objects.{label_there}
use Rattle.histar_layout.specs.Jobs.{is_empty, jobs_in}
use Rattle.histar_layout.specs.declared.entry.Target.{Target}
use Rattle.histar_programs.specs.Caller.{home_at}
use Rattle.histar_programs.specs.declared.roots.Home.{Home}
use Rattle.histar_programs.specs.declared.roots.Roots.{Roots}
use Rattle.histar_readout.specs.Resolve.{Resolves}
use Rattle.histar_reasons.specs.Reasons.{Reason}
use Rattle.histar_reasons.specs.Reasons.Reason.{IsMissing, IsNoChild}
use Rattle.histar_reasons.specs.Sentences.{why_text}
use Rattle.histar_why.specs.declared.asked.Asked.{Asked}
use Rattle.histar_why.specs.declared.asked.Part.{Part}
use Rattle.histar_why.specs.declared.asked.Part.TheVariants.{OfProcess}
use Rattle.histar_why.specs.declared.asked.ProcessPart.TheVariants.{IsChild}
use Rattle.histar_why.specs.declared.reasons.PathReason.{PathReason}
use Rattle.histar_why.specs.declared.reasons.PathReason.TheVariants.{HasDirectory, IsTaken, IsTakenBeside, RootStays}
use Rattle.histar_why.specs.Barriers.{path_at}
use Rattle.histar_why.specs.Reasons.{path_reason_of}
use Rattle.histar_why.specs.declared.implied.Implied.{Implied}
use Rattle.histar_why.specs.declared.implied.Implied.TheVariants.{OfPath, IsMissing as FindsNone, IsNoChild as SeesNoChild}

-- something is at the path, or beside it, which a call is refused for
abbrev pub taken : Asked → PathReason
taken asked = elim asked.beside [ None ↦ IsTaken | Some name ↦ IsTakenBeside name ]

-- the call needs the process that it names to be a child of its own
abbrev pub is_child_part : Part → Bool
is_child_part (OfProcess IsChild) = true
is_child_part part = false

abbrev pub asks_child : List Part → Bool
asks_child parts = list_any is_child_part parts

-- the label of a process's container has no job
abbrev pub has_no_job : Option Levels → Bool
has_no_job None = false
has_no_job (Some outer) = is_empty (jobs_in outer)

-- the process at this place, if there is one, is in no job
abbrev pub is_free_in : State → Option Home → Bool
is_free_in s None = false
is_free_in s (Some home) = has_no_job (label_there (s.objects home.container))

-- the process of this name is there and in no job
abbrev pub is_free_at : State → Home → ProcName → Bool
is_free_at s first me = is_free_in s (home_at s first me)

-- the process of this name and all above it but process 0 are there and in no job
abbrev pub are_free_to : State → Home → ProcName → Bool
are_free_to s first [] = true
are_free_to s first (n ∷ above) = are_free_to s first above && is_free_at s first (n ∷ above)

-- ---- its sentence

-- the reason that a refusal implies, as the rules have it
abbrev pub implied_of : Asked → Implied → Reason
implied_of asked (OfPath reason) = path_reason_of asked.path reason
implied_of asked (FindsNone depth) = IsMissing (path_at depth asked.path)
implied_of asked SeesNoChild = IsNoChild asked.other

-- a process of which nothing is known
abbrev pub anybody : Process
anybody = record { user = []; chain = []; held = []; exited = None; born = 0 }

-- the sentence of a reason of what is at a path, which is the same whoever calls
abbrev pub path_words : Path → PathReason → List ℕ
path_words q reason = why_text [] anybody (path_reason_of q reason)

-- the sentence of a reason that a refusal implies, which is the same of whatever user the process is
abbrev pub implied_words : Asked → Implied → List ℕ
implied_words asked implied = why_text asked.process anybody (implied_of asked implied)

-- ---- what implies a reason

module _ (s : State) (roots : Roots) where
  -- This is how many names the path on the way to a path has that is missing: the one below the last directory that is there. Where the
  -- path is `/` none is.
  abbrev pub FindsMissing : Path → Option ℕ → Type 0
  FindsMissing [] missing = missing ≡ None
  FindsMissing (n ∷ d) missing =
      (found : Option Target) × Resolves s roots d found
      × MatchOption found (FindsMissing d missing) (λ there. missing ≡ Some (length (n ∷ d)))

  -- The reason of a call that is refused like this, where that implies one: by the paths of the call, by the paths that are there, or since the
  -- process that it names is seen by all.
  abbrev pub ImpliesErrno : Asked → Errno → Option Implied → Type 0
  ImpliesErrno asked EEXIST implied = implied ≡ Some (OfPath (taken asked))
  ImpliesErrno asked EISDIR implied = implied ≡ Some (OfPath HasDirectory)
  ImpliesErrno asked EBUSY implied = implied ≡ Some (OfPath RootStays)
  ImpliesErrno asked ENOENT implied =
      (missing : Option ℕ) × FindsMissing asked.path missing × (implied ≡ option_map FindsNone missing)
  ImpliesErrno asked EACCES implied =
      MatchOption implied (Unit {0})
      (λ reason. (reason ≡ SeesNoChild) × (asks_child asked.parts.now ≡ true) × (are_free_to s roots.home asked.other ≡ true))
  ImpliesErrno asked errno implied = implied ≡ None

  -- the reason of a call with this reply, where that implies one
  abbrev pub ImpliesReason : Asked → Reply → Option Implied → Type 0
  ImpliesReason asked (Refused errno) implied = ImpliesErrno asked errno implied
  ImpliesReason asked reply implied = implied ≡ None
