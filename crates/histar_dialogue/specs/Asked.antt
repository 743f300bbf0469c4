-- What is shown of a session: what a subcommand of the program writes of it.
use Rattle.std.specs.Prelude.{◌≡◌, ℕ, ◌⊎◌, true, false, List, [], ◌++◌, None, Some, Result, Ok, Err}
use Rattle.std.specs.List.{flat_map}
use Rattle.std.specs.Global.{Vec}
use Rattle.histar_flat.specs.Words.{Path}
use Rattle.histar_script.specs.declared.fault.Fault.{Fault}
use Rattle.histar_script.specs.declared.fault.Fault.TheVariants.{BadScript, TooLong}
use Rattle.histar_script.specs.declared.fault.Fault.TheVariants.{OutOfMemory, ReadFailed, WriteFailed}
use Rattle.histar_script.specs.Lines.{lines_of}
use Rattle.histar_script.specs.Reading.{script_of}
use Rattle.histar_trace.specs.declared.entries.TraceEntry.{TraceEntry}
use Rattle.histar_shell.specs.declared.session.Options.{Options}
use Rattle.histar_shell.specs.Run.{RunsText}
use Rattle.histar_run_explain.specs.Output.{IsExplainedOutput}
use Rattle.histar_access.specs.Session.{AccessText}
use Rattle.histar_trust.specs.declared.session.TrustOptions.{TrustOptions}
use Rattle.histar_trust.specs.Session.{FlowsText, TrustText}
use Rattle.histar_leak.specs.Session.{LeakOf}
use Rattle.histar_dialogue.specs.declared.commands.Asked.{Asked}
use Rattle.histar_dialogue.specs.declared.commands.Asked.TheVariants as asked
use Rattle.histar_dialogue.specs.Commands.{no_user_text}
use Rattle.histar_dialogue.specs.Parts.{line_at, or_no_entry}

-- the replies alone
abbrev pub of_replies : Options
of_replies = record { tree = false; trace = false }

-- the replies, and the tree behind them
abbrev pub with_tree : Options
with_tree = record { tree = true; trace = false }

-- the replies, and the raw calls behind them
abbrev pub with_trace : Options
with_trace = record { tree = false; trace = true }

-- this is what `run` writes of a text with these options
abbrev pub IsRun : Options → List ℕ → List ℕ → Type 0
IsRun options text output = (trace : List TraceEntry) × RunsText options text (Some []) (Some output) (Ok trace)

-- this is what `run --explain` writes of a text
abbrev pub IsExplained : List ℕ → List ℕ → Type 0
IsExplained text output = IsExplainedOutput of_replies text output

-- this is what `run` writes with these options behind the replies
abbrev pub IsBehindReplies : Options → List ℕ → List ℕ → Type 0
IsBehindReplies options text said =
    (replies : List ℕ) × IsRun of_replies text replies × IsRun options text (replies ++ said)

-- this is what `access` writes of a text
abbrev pub IsTable : List ℕ → List ℕ → Type 0
IsTable text said = AccessText None text (Some []) (Some said) (Ok tt)

-- this is the line of a path among those that `access` writes of a text
abbrev pub IsTableAt : Path → List ℕ → List ℕ → Type 0
IsTableAt path text said =
    (table : List ℕ) × IsTable text table × (said ≡ or_no_entry (flat_map (line_at path) (lines_of table)))

-- no line, and no reasons
abbrev pub to_the_end : TrustOptions
to_the_end = record { at = None; why = false }

-- this is what the subcommand writes of a text
abbrev pub IsAnswer : Asked → List ℕ → List ℕ → Type 0
IsAnswer asked.Access text said = IsTable text said
IsAnswer (asked.AccessAt path) text said = IsTableAt path text said
IsAnswer (asked.Trust path) text said = TrustText to_the_end path text (Some []) (Some said) (Ok tt)
IsAnswer (asked.Leak path) text said = LeakOf None path text (Some []) (Some said) (Ok tt)
IsAnswer asked.Flows text said = FlowsText None text (Some []) (Some said) (Ok tt)
IsAnswer asked.Tree text said = IsBehindReplies with_tree text said
IsAnswer asked.Trace text said = IsBehindReplies with_trace text said

-- the text is no script as yet, and the answer says so
abbrev pub LacksUser : List ℕ → List ℕ → Type 0
LacksUser text said = (fault : Fault) × (script_of text ≡ Err fault) × (said ≡ no_user_text)

-- this is what is to be shown of a text, if it is a script
abbrev pub Shows : (List ℕ → List ℕ → Type 0) → List ℕ → List ℕ → Type 0
Shows Is text said = Is text said ⊎ LacksUser text said

-- the answer is what was found, or that the session has no user where there is no script
abbrev pub OrNoUser : Result (Vec ℕ) Fault → List ℕ → Type 0
OrNoUser (Ok found) said = said ≡ found.items
OrNoUser (Err (BadScript n)) said = said ≡ no_user_text
OrNoUser (Err TooLong) said = said ≡ no_user_text
OrNoUser (Err OutOfMemory) said = ⊥
OrNoUser (Err ReadFailed) said = ⊥
OrNoUser (Err WriteFailed) said = ⊥
