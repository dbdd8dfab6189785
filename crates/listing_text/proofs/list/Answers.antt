use Rattle.listing_text.proofs.list.Goals as goal

pub list_settled-requires : goal.list_settled-requires
list_settled-requires c = (c.settled.ensures.passed c.in-Ok.look c.in-Ok.is).known
