-- How the code that makes a scratch directory, and the code that holds a job, run their parts.
use Rattle.std.proofs.Common.{◌≡◌, ℕ, [], Result, Ok, Err, subst}
use Rattle.std.specs.FinMap as map
use Rattle.std.specs.Result.{IsErrAnd}
use Rattle.histar_level.specs.declared.level.Level.TheVariants.{Star, L3}
use Rattle.histar_level.specs.Levels.{Levels}
use Rattle.histar_label.specs.Levels.{with_level}
use Rattle.histar_rules.specs.declared.raw.RawCall.TheVariants.{MakeContainer, MakeSegment, SetLabel, SetClearance, Write}
use Rattle.histar_syscall.specs.KernelModel.{KernelModel}
use Rattle.histar_layout.specs.Directory.{Entries, spelling}
use Rattle.histar_layout.specs.declared.entry.Target.TheVariants.{Directory}
use Rattle.histar_programs.specs.declared.call_error.CallError.{CallError}
use Rattle.histar_programs.specs.declared.call_error.CallError.TheVariants.{Stopped}
use Rattle.histar_programs.specs.declared.roots.Place.{Place}
use Rattle.histar_programs.specs.declared.find.Room.{Room}
use Rattle.histar_programs.specs.Parts.{ask, write_entries}
use Rattle.histar_programs.specs.Programs.{Part, RunsPart}
use Rattle.histar_programs.proofs.Running.{before_ask}
use Rattle.histar_programs.proofs.Exits.{LeavesPart, ends_in_so, further_in}
use Rattle.histar_wrap.specs.Scratch.{ask_or_give_back, hold_job, make_scratch}
use Rattle.histar_wrap.specs.declared.scratch.Wrapper.{Wrapper}

-- the label and the clearance that the wrapper had before the job
abbrev pub own_of : Wrapper → Levels × Levels
own_of wrapper = (wrapper.own, wrapper.clearance)

-- memory ran out before the entries of a directory were written
pub before_entries : {M : Type 0} → (t : ℕ) (place : Place) (entries : Entries) (k : KernelModel) → M
    → RunsPart M (write_entries place entries) k k t (Err Stopped)
before_entries t place entries k memory = before_ask t (Write place.container place.listing 0 (spelling entries)) k memory

module _ (room : Room) where
  -- the entries of the directory above, with the scratch directory
  abbrev pub grown : ℕ → ℕ → Entries
  grown container listing = map.insert room.entries room.name (Directory container listing)

  -- what comes after the directory segment
  abbrev pub after_listing : ℕ → ℕ → Part (Unit {0})
  after_listing container listing = write_entries room.place (grown container listing)

module _ (t : ℕ) (own : Levels × Levels) (label : Levels) (room : Room) (old : KernelModel) where
  -- what comes after the container
  abbrev after_container : ℕ → Part (Unit {0})
  after_container container rest = ask (MakeSegment container label []) (λ listing. after_listing room container listing rest)

  -- at first the whole part is left
  begun : {M : Type 0} → LeavesPart M (Unit {0}) t (make_scratch own label room) old
      (λ rest. ask_or_give_back own (MakeContainer room.place.container label) (λ container. after_container container rest)) old
  unfolding make_scratch
  begun = record { leads = λ new result on. on }

  -- no container was made
  pub without_container : {M : Type 0} → (new : KernelModel) (call_error : CallError) (result : Result (Unit {0}) CallError)
      → IsErrAnd result (λ e. e ≡ call_error)
      → RunsPart M (ask_or_give_back own (MakeContainer room.place.container label)) old new t (Err call_error)
      → RunsPart M (make_scratch own label room) old new t result
  without_container = ends_in_so (ask_or_give_back own (MakeContainer room.place.container label)) after_container begun

  module _ {M : Type 0} (mid : KernelModel) (container : ℕ)
      (first : RunsPart M (ask_or_give_back own (MakeContainer room.place.container label)) old mid t (Ok container)) where
    -- a container was made
    with_container : LeavesPart M (Unit {0}) t (make_scratch own label room) old (after_container container) mid
    with_container = further_in (ask_or_give_back own (MakeContainer room.place.container label)) after_container begun mid container first

    -- no directory segment was made
    pub without_listing : (new : KernelModel) (call_error : CallError) (result : Result (Unit {0}) CallError)
        → IsErrAnd result (λ e. e ≡ call_error) → RunsPart M (ask (MakeSegment container label [])) mid new t (Err call_error)
        → RunsPart M (make_scratch own label room) old new t result
    without_listing = ends_in_so (ask (MakeSegment container label [])) (after_listing room container) with_container

    -- a directory segment was made, and the entry is still to be made
    pub with_listing : (late : KernelModel) (listing : ℕ) → RunsPart M (ask (MakeSegment container label [])) mid late t (Ok listing)
        → LeavesPart M (Unit {0}) t (make_scratch own label room) old (after_listing room container listing) late
    with_listing = further_in (ask (MakeSegment container label [])) (after_listing room container) with_container

module _ (t : ℕ) (own : Levels × Levels) (job : ℕ) (old : KernelModel) where
  -- what comes after the label of the thread that holds a job
  abbrev after_label : Unit {0} → Part (Unit {0})
  after_label done = ask (SetClearance (with_level own.1 job L3))

  -- at first the whole part is left
  hold_begun : {M : Type 0} → LeavesPart M (Unit {0}) t (hold_job own job) old
      (λ rest. ask (SetLabel (with_level own.0 job Star)) (λ done. after_label done rest)) old
  unfolding hold_job
  hold_begun = record { leads = λ new result on. on }

  -- the label was not given
  pub without_label : {M : Type 0} → (new : KernelModel) (call_error : CallError) (result : Result (Unit {0}) CallError)
      → IsErrAnd result (λ e. e ≡ call_error)
      → RunsPart M (ask (SetLabel (with_level own.0 job Star))) old new t (Err call_error) → RunsPart M (hold_job own job) old new t result
  without_label = ends_in_so (ask (SetLabel (with_level own.0 job Star))) after_label hold_begun

  -- the label was given, and the clearance is still to be given
  pub with_label : {M : Type 0} → (mid : KernelModel) → RunsPart M (ask (SetLabel (with_level own.0 job Star))) old mid t (Ok tt)
      → LeavesPart M (Unit {0}) t (hold_job own job) old (ask (SetClearance (with_level own.1 job L3))) mid
  with_label mid = further_in (ask (SetLabel (with_level own.0 job Star))) after_label hold_begun mid tt

-- a raw call with the expected label
module _ (t : ℕ) (old new : KernelModel) (label due : Levels) (same : label ≡ due) (result : Result (Unit {0}) CallError) where
  pub label_so : {M : Type 0} → RunsPart M (ask (SetLabel label)) old new t result → RunsPart M (ask (SetLabel due)) old new t result
  label_so {M} runs = subst (λ (l : Levels). RunsPart {A = Unit {0}} M (ask (SetLabel l)) old new t result) same runs

  pub clearance_so : {M : Type 0} → RunsPart M (ask (SetClearance label)) old new t result → RunsPart M (ask (SetClearance due)) old new t result
  clearance_so {M} runs = subst (λ (l : Levels). RunsPart {A = Unit {0}} M (ask (SetClearance l)) old new t result) same runs
