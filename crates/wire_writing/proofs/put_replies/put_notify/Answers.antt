use Rattle.std.proofs.Common.{ℕ, List, ◌++◌}
use Rattle.wire_messages.specs.of_wire_fields.Parts.{files, kinds, some_set, sizes, sites}
use Rattle.wire_messages.specs.Answers.{versions}
use Rattle.wire_parts.proofs.Writing.{behind}
use Rattle.wire_writing.proofs.put_replies.put_notify.Goals as goal

pub returns : goal.returns
returns c =
    let new = c.put_site.new.out in
    let r = c.put_site.result in
    let b5 : List ℕ = sites.spell c.args.holder in
    let a4 : List ℕ = versions.spell (c.args.stamp, c.args.vector.now) in
    let b4 : List ℕ = a4 ++ b5 in
    let a3 : List ℕ = sizes.spell c.args.size in
    let b3 : List ℕ = a3 ++ b4 in
    let a2 : List ℕ = some_set.spell c.args.set in
    let b2 : List ℕ = a2 ++ b3 in
    let a1 : List ℕ = kinds.spell c.args.kind in
    let b1 : List ℕ = a1 ++ b2 in
    let a0 : List ℕ = files.spell c.args.file in
    let b0 : List ℕ = a0 ++ b1 in
    let t4 = behind r c.put_u32.new.out c.put_version.new.out new a4 b5 c.in_ok-put_version.ensures c.put_site.ensures in
    let t3 = behind r c.put_set.new.out c.put_u32.new.out new a3 b4 c.in_ok-put_u32.ensures.ok t4 in
    let t2 = behind r c.put_kind.new.out c.put_set.new.out new a2 b3 c.in_ok-put_set.ensures t3 in
    let t1 = behind r c.put_file.new.out c.put_kind.new.out new a1 b2 c.in_ok-put_kind.ensures t2 in
    let t0 = behind r c.args.out.now c.put_file.new.out new a0 b1 c.in_ok-put_file.ensures t1 in
    t0
