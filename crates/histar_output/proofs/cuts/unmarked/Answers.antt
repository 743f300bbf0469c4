-- Proves the goals of `unmarked` of src/cuts.rt that the search leaves open.
use Rattle.std.proofs.Common.{◌≡◌, ◌∷◌, [], ◌++◌, sym, ap, ◌∙◌, arith, Some}
use lib.Utf8.{encode}
use Rattle.std.proofs.lemmas.Str.Pattern.{strip_suffix_char}
use Rattle.histar_output.specs.Cuts.{is_marked, unmarked}
use Rattle.histar_output.proofs.CutLemmas.{unmarked_end, unmarked_stays}
use Rattle.histar_output.proofs.cuts.unmarked.Goals as goal
use Rattle.histar_output.proofs.cuts.unmarked.Goals.{After-name-in-Some-1}

pub returns-in-None-clause-word : goal.returns-in-None-clause-word
unfolding encode
returns-in-None-clause-word c = sym (unmarked_stays c.args.word.now c.in-None.ensures.cases).0

pub returns-in-None-clause-mark : goal.returns-in-None-clause-mark
unfolding encode
returns-in-None-clause-mark c = sym (unmarked_stays c.args.word.now c.in-None.ensures.cases).1

-- the word is the name and `!`
named : (c : After-name-in-Some-1) → c.args.word.now ≡ c.in-Some.name.now ++ 33 ∷ []
named c = strip_suffix_char 33 c.args.word.now (Some c.in-Some.name) c.in-Some.ensures.cases (omega arith)

pub returns-in-Some-clause-word : goal.returns-in-Some-clause-word
returns-in-Some-clause-word c = sym (ap unmarked (named c) ∙ (unmarked_end c.in-Some.name.now).0)

pub returns-in-Some-clause-mark : goal.returns-in-Some-clause-mark
returns-in-Some-clause-mark c = sym (ap is_marked (named c) ∙ (unmarked_end c.in-Some.name.now).1)
