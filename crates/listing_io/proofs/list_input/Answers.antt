-- `listing_io::list_input` meets its contract: the whole listing is among its first bytes.
use Rattle.listing_io.proofs.PrintLaws.{first_whole}
use Rattle.listing_io.proofs.list_input.Goals as goal

pub returns-in-Ok-clause-lists : goal.returns-in-Ok-clause-lists
returns-in-Ok-clause-lists g c = first_whole c.args.d _ _ _ c.in-Ok.ensures.lists
