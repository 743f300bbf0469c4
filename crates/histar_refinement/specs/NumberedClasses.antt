-- Classes whose jobs are given by the numbers of their categories.
use Rattle.std.specs.Prelude.{ℕ, List, map}
use Rattle.histar_flat.specs.Words.{ProcName}
use Rattle.histar_flat.specs.Classes.{Class}
use Rattle.histar_flat.specs.Classes.Class.{Private, Readable, Open, Scratch, Grouped}
use Rattle.histar_layout.specs.declared.class.Class.{Class as NumberedClass}
use Rattle.histar_layout.specs.declared.class.Class.TheVariants as numbered
use Rattle.histar_refinement.specs.Categories.{Categories}
use Rattle.histar_refinement.specs.Categories.CategoryName.{OfJob}

-- the numbers of the categories of jobs
abbrev pub job_numbers : Categories → List ProcName → List ℕ
job_numbers category jobs = map (λ job. category (OfJob job)) jobs

-- a class, with the number of the category in place of each of its jobs
abbrev pub numbered_class : Categories → Class → NumberedClass
numbered_class category (Private owner) = numbered.Private owner
numbered_class category (Readable owner) = numbered.Readable owner
numbered_class category Open = numbered.Open
numbered_class category (Scratch owner jobs) = numbered.Scratch owner (job_numbers category jobs)
numbered_class category (Grouped group) = numbered.Group group
