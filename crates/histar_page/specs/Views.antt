-- How words and lines are shown one by one.
use Rattle.std.specs.Prelude.{ℕ, List, [], ◌∷◌, map}
use Rattle.std.specs.List.{flat_map}
use Rattle.histar_page.specs.declared.views.View.{View}
use Rattle.histar_page.specs.declared.views.View.TheVariants.{RawCalls, Explanations, Reasons, GroupMembers, OtherCalls, OtherExplanations, Users, Stats, Members}
use Rattle.histar_page.specs.declared.views.View.TheVariants.{Links, Rules}
use Rattle.histar_page.specs.Items.{Item}
use Rattle.histar_page.specs.Session.{other_call_items, other_why_items, raw_item, why_item}
use Rattle.histar_page.specs.Story.{reason_item}
use Rattle.histar_page.specs.Callers.{link_items, rule_items}
use Rattle.histar_page.specs.Who.{group_member_item}
use Rattle.histar_page.specs.Files.{stat_item, user_item}
use Rattle.histar_page.specs.Secrets.{member_item}

-- the items of a word or a line
abbrev pub view_items : View → List ℕ → List Item
view_items RawCalls text = raw_item text ∷ []
view_items Explanations text = why_item text ∷ []
view_items Reasons text = reason_item text ∷ []
view_items GroupMembers text = group_member_item text ∷ []
view_items OtherCalls text = other_call_items text
view_items OtherExplanations text = other_why_items text
view_items Users text = user_item text ∷ []
view_items Stats text = stat_item text ∷ []
view_items Members text = member_item text ∷ []
view_items Links text = link_items text
view_items Rules text = rule_items text

-- the items of words or lines
abbrev pub views : View → List (List ℕ) → List Item
views RawCalls texts = map raw_item texts
views Explanations texts = map why_item texts
views Reasons texts = map reason_item texts
views GroupMembers texts = map group_member_item texts
views OtherCalls texts = flat_map other_call_items texts
views OtherExplanations texts = flat_map other_why_items texts
views Users texts = map user_item texts
views Stats texts = map stat_item texts
views Members texts = map member_item texts
views Links texts = flat_map link_items texts
views Rules texts = flat_map rule_items texts
