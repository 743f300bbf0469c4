-- Proves the goals of `the_trace_is_explained` of src/laws.rt that the search leaves open.
use Rattle.histar_run_explain.proofs.OneTrace.{explains_the_trace}
use Rattle.histar_run_explain.proofs.laws.the_trace_is_explained.Goals as goal

pub returns : goal.returns
returns c = explains_the_trace
