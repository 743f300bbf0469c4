-- Proves the goals of `look_up_checked` of src/checked.rt that the search leaves open.
use Rattle.histar_layout.proofs.checked.look_up_checked.Goals as goal

pub returns : goal.returns
returns c = (
  c.in_ok-check_directory.ensures.0,
  c.in_ok-check_directory.ensures.1,
  c.look_up.ensures.entry
      c.in_ok-check_directory.ensures.0 c.in_ok-check_directory.ensures.1,
)
