use Rattle.pack_layout.proofs.write.write_body.Goals as goal

pub returns : goal.returns
returns c = c.write_fields.ensures
