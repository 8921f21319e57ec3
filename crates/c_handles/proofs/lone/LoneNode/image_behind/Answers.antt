use Rattle.c_handles.proofs.lone.LoneNode.image_behind.Goals as goal

pub returns-clause-refused : goal.returns-clause-refused
returns-clause-refused c = rw (← c.self.view_is) c.to_bytes.ensures.refused

pub returns-clause-last : goal.returns-clause-last
returns-clause-last c = rw (← c.self.view_is) c.to_bytes.ensures.last
