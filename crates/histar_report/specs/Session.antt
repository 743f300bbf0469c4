-- Writing a session as a page, from bytes to bytes.
use Rattle.std.specs.Prelude.{◌≡◌, ◌⊎◌, ℕ, true, false, List, [], Option, None, Some, Result, Ok, Err}
use Rattle.std.specs.Global.{Vec}
use Rattle.std.specs.Io.KnownBytes.{Appends, Keeps}
use Rattle.histar_io.specs.Writing.{AppendsFront}
use Rattle.histar_script.specs.declared.fault.Fault.{Fault}
use Rattle.histar_script.specs.declared.fault.Fault.TheVariants.{BadScript, TooLong, OutOfMemory, ReadFailed, WriteFailed}
use Rattle.histar_script.specs.Reading.{script_of}
use Rattle.histar_shell.specs.declared.session.Options.{Options}
use Rattle.histar_run_explain.specs.Output.{IsExplainedOutput}
use Rattle.histar_access.specs.Session.{AccessText}
use Rattle.histar_trust.specs.Session.{FlowsText, SecretsText}
use Rattle.histar_leak.specs.Titles.{TitlesText}
use Rattle.histar_why.specs.Run.{RunsWithReasons}
use Rattle.histar_page.specs.Page.{is_long, page_of}

-- the options of the run: it prints its raw calls
abbrev pub with_trace : Options
with_trace = record { tree = false; trace = true }

-- the options of the run with reasons
abbrev pub of_replies : Options
of_replies = record { tree = false; trace = false }

-- this is the output of a run of the script in a text with the reasons of its refused calls
abbrev pub AreReasons : List ℕ → List ℕ → Type 0
AreReasons text reasons = RunsWithReasons of_replies text (Some []) (Some reasons) (Ok tt)

-- this is the table of rights after the script in a text
abbrev pub IsTable : List ℕ → List ℕ → Type 0
IsTable text table = AccessText None text (Some []) (Some table) (Ok tt)

-- A page shows the one text on rights as it shows the other: they are the same, or both are too long to be shown.
abbrev pub IsShownAs : List ℕ → List ℕ → Type 0
IsShownAs kept table = (kept ≡ table) ⊎ ((is_long kept ≡ true) × (is_long table ≡ true))

-- the text is shown as the table of rights after the script in a text
abbrev pub ShowsTable : List ℕ → List ℕ → Type 0
ShowsTable text kept = (table : List ℕ) × IsTable text table × IsShownAs kept table

-- a text that was kept is returned if it is too long to be shown, or else that memory ran out
abbrev pub IsLongFront : List ℕ → Result (Vec ℕ) Fault → Type 0
IsLongFront kept (Ok found) = (found.items ≡ kept) × (is_long kept ≡ true)
IsLongFront kept (Err fault) = fault ≡ OutOfMemory

-- these are the lines on the secret files after the script in a text
abbrev pub AreSecrets : List ℕ → List ℕ → Type 0
AreSecrets text secrets = SecretsText text (Some []) (Some secrets) (Ok tt)

-- these are the lines on how the secret files are revealed or changed after the script in a text
abbrev pub AreTitles : List ℕ → List ℕ → Type 0
AreTitles text titles = TitlesText text (Some []) (Some titles) (Ok tt)

-- these are the lines on the flows after the script in a text
abbrev pub AreFlows : List ℕ → List ℕ → Type 0
AreFlows text flows = FlowsText None text (Some []) (Some flows) (Ok tt)

-- A page was written as far as `Writes` says: the one of the script in a text, of the output of its run, of why calls were refused, of its
-- table of rights, of the lines on which processes have to be trusted with its secret files, of those on how each of these is revealed or
-- changed, and of those on to whom each process can pass on what it learns.
pub record WritesPageAs (Writes : List ℕ → Type 0) (name version text : List ℕ) : Type 0 where
  pub output : List ℕ
  pub is_output : IsExplainedOutput with_trace text output
  pub reasons : List ℕ
  pub are_reasons : AreReasons text reasons
  pub table : List ℕ
  pub is_table : IsTable text table
  pub secrets : List ℕ
  pub are_secrets : AreSecrets text secrets
  pub titles : List ℕ
  pub are_titles : AreTitles text titles
  pub flows : List ℕ
  pub are_flows : AreFlows text flows
  pub page : List ℕ
  pub is_page : page ≡ page_of (record {
    name = name;
    version = version;
    script = text;
    output = output;
    reasons = reasons;
    table = table;
    secrets = secrets;
    titles = titles;
    flows = flows;
  })
  pub written : Writes page

-- A page of the run was written; or the fault of the script is returned, and nothing was written. At a failed write a beginning was
-- written, and if memory runs out nothing.
abbrev pub WritesPage : List ℕ → List ℕ → List ℕ → Option (List ℕ) → Option (List ℕ) → Result (Unit {0}) Fault → Type 0
WritesPage name version text old new (Ok u) = WritesPageAs (Appends old new) name version text
WritesPage name version text old new (Err WriteFailed) = WritesPageAs (AppendsFront old new) name version text
WritesPage name version text old new (Err OutOfMemory) = Keeps old new
WritesPage name version text old new (Err (BadScript n)) = (script_of text ≡ Err (BadScript n)) × Keeps old new
WritesPage name version text old new (Err TooLong) = (script_of text ≡ Err TooLong) × Keeps old new
WritesPage name version text old new (Err ReadFailed) = Keeps old new
