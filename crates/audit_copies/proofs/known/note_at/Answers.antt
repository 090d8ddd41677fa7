use Rattle.std.proofs.Common.{◌<◌, length, arith}
use Rattle.audit_copies.proofs.ByFile.{at_within, put_at, up_at}
use Rattle.audit_copies.proofs.known.note_at.Goals as goal

pub index_mut-rows-requires : goal.index_mut-rows-requires
index_mut-rows-requires c =
    let l : c.args.place < length c.args.files.now.items = at_within c.args.files.now.items c.args.place c.args.copy.file c.requires.there in
    omega (arith, l, c.args.files.now.ok)

pub note-requires : goal.note-requires
note-requires c =
    up_at c.args.files.now.items c.args.place c.index_mut-rows.result.now
    (at_within c.args.files.now.items c.args.place c.args.copy.file c.requires.there) c.index_mut-rows.ensures.value c.requires.order

pub returns-clause-ok : goal.returns-clause-ok
returns-clause-ok c =
    put_at c.args.copy c.args.files.now.items c.args.place c.index_mut-rows.result.now c.note.new.self
    c.requires.there c.requires.count c.index_mut-rows.ensures.value c.in_ok-note.ensures.ok
