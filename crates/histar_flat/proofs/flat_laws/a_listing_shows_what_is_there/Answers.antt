-- Proves the goals of `a_listing_shows_what_is_there` of src/flat_laws.rt that the search leaves open.
use Rattle.histar_flat.proofs.ListingLaws.{listings_show_what_is_there}
use Rattle.histar_flat.proofs.flat_laws.a_listing_shows_what_is_there.Goals as goal

pub returns : goal.returns
returns c = listings_show_what_is_there
