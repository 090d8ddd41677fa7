use Rattle.std.proofs.Common.{ℕ, List, ◌++◌}
use Rattle.field_codec.specs.Codec.{followed_by}
use Rattle.wire_messages.specs.of_wire_fields.Parts.{instances, files_or_new, kinds, some_set, stamps, vectors, ascending_stamps}
use Rattle.wire_messages.specs.Answers.{is_new, modes}
use Rattle.wire_parts.proofs.Writing.{behind}
use Rattle.wire_writing.proofs.put_requests.put_open_ss.Goals as goal

pub returns : goal.returns
returns c =
    let new = c.put_ascending_stamps.new.out in
    let r = c.put_ascending_stamps.result in
    let b6 : List ℕ = ascending_stamps.spell c.args.parents.now in
    let a5 : List ℕ = vectors.spell c.args.vector.now in
    let b5 : List ℕ = a5 ++ b6 in
    let a4 : List ℕ = stamps.spell c.args.base in
    let b4 : List ℕ = a4 ++ b5 in
    let a3 : List ℕ = kinds.spell c.args.kind in
    let b3 : List ℕ = a3 ++ b4 in
    let a2 : List ℕ = some_set.spell c.args.set in
    let b2 : List ℕ = a2 ++ b3 in
    let a1 : List ℕ = (followed_by files_or_new (λ file. modes (is_new file))).spell (c.args.file, c.args.mode) in
    let b1 : List ℕ = a1 ++ b2 in
    let a0 : List ℕ = instances.spell c.args.inst in
    let b0 : List ℕ = a0 ++ b1 in
    let t5 = behind r c.put_stamp.new.out c.put_vector.new.out new a5 b6 c.in_ok-put_vector.ensures c.put_ascending_stamps.ensures in
    let t4 = behind r c.put_kind.new.out c.put_stamp.new.out new a4 b5 c.in_ok-put_stamp.ensures t5 in
    let t3 = behind r c.put_set.new.out c.put_kind.new.out new a3 b4 c.in_ok-put_kind.ensures t4 in
    let t2 = behind r c.put_file_mode.new.out c.put_set.new.out new a2 b3 c.in_ok-put_set.ensures t3 in
    let t1 = behind r c.put_instance.new.out c.put_file_mode.new.out new a1 b2 c.in_ok-put_file_mode.ensures t2 in
    let t0 = behind r c.args.out.now c.put_instance.new.out new a0 b1 c.in_ok-put_instance.ensures t1 in
    t0
