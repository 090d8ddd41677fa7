use Rattle.wire_parts.proofs.Writing.{behind}
use Rattle.wire_writing.proofs.put_replies.put_page.Goals as goal

pub returns : goal.returns
returns c =
    let t0 = behind _ _ _ _ _ _ c.in_ok-put_pull.ensures c.put_data.ensures in
    t0
