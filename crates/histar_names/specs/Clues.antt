-- The processes and the path in a line, by which objects and categories are named in turn.
use Rattle.histar_flat.specs.declared.calls.UnixCall.{UnixCall}
use Rattle.histar_flat.specs.declared.calls.UnixCall.TheVariants.{Status, Kill}
use Rattle.histar_flat.specs.CallRules.{path_of}
use Rattle.histar_flat.specs.Words.{ProcName}
use Rattle.histar_names.specs.declared.clues.Clue.{Clue}

-- the process that a call names, or the one that makes it
abbrev pub process_named : ProcName → UnixCall → ProcName
process_named me (Status name) = name
process_named me (Kill name) = name
process_named me call = me

-- the processes and the path in a line: the process that makes its call, the one that the call names, and a path
abbrev pub clue_of : ProcName → UnixCall → Clue
clue_of me call = record { caller = me; named = process_named me call; path = path_of call }
