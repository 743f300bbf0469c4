-- Causes as the code has them, and the class of a label with its jobs by name.
use Rattle.std.specs.Prelude.{List, [], map}
use Rattle.histar_flat.specs.Words.{ProcName}
use Rattle.histar_flat.specs.Classes.{Class}
use Rattle.histar_flat.specs.Classes.Class.{Private, Readable, Open, Scratch, Grouped}
use Rattle.histar_layout.specs.declared.class.Class.{Class as NumberedClass}
use Rattle.histar_layout.specs.declared.class.Class.TheVariants as numbered
use Rattle.histar_names.specs.Births.{Births}
use Rattle.histar_reasons.specs.Causes.{Cause}
use Rattle.histar_reasons.specs.Causes.Cause.{IsPrivate, IsReadable, IsScratch, IsGrouped, NeedsJob, LeavesJob}
use Rattle.histar_why.specs.declared.causes.Cause.{Cause as Found}
use Rattle.histar_why.specs.declared.causes.Cause.TheVariants as found
use Rattle.histar_why.specs.Names.{job_named}

-- a cause, as the rules have it
abbrev pub cause_of : Found → Cause
cause_of (found.IsPrivate owner) = IsPrivate owner
cause_of (found.IsReadable owner) = IsReadable owner
cause_of (found.IsScratch owner) = IsScratch owner
cause_of (found.IsGrouped group) = IsGrouped group
cause_of (found.NeedsJob job) = NeedsJob job
cause_of (found.LeavesJob job) = LeavesJob job

-- the class of a label, with these names of its jobs
abbrev pub class_by : List ProcName → NumberedClass → Class
class_by jobs (numbered.Private owner) = Private owner
class_by jobs (numbered.Readable owner) = Readable owner
class_by jobs numbered.Open = Open
class_by jobs (numbered.Scratch owner chain) = Scratch owner jobs
class_by jobs (numbered.Group group) = Grouped group

-- the names of the jobs of a class
abbrev pub jobs_by : Births → NumberedClass → List ProcName
jobs_by births (numbered.Scratch owner chain) = map (job_named births) chain
jobs_by births class = []

-- the class of a label, with each job by its name
abbrev pub class_named : Births → NumberedClass → Class
class_named births class = class_by (jobs_by births class) class

-- these jobs, where a class has any
abbrev pub jobs_for : List ProcName → NumberedClass → List ProcName
jobs_for jobs (numbered.Scratch owner chain) = jobs
jobs_for jobs class = []
