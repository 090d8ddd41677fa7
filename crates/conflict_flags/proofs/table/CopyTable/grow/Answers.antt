use Rattle.std.proofs.Common.{rules, ◌≡◌, ◌-◌, ◌<◌, arith, ap, ◌∙◌, List}
use Rattle.commit_graph.specs.declared.history.Version.{Version}
use Rattle.version_vector.specs.Counters.{part}
use Rattle.conflict_flags.specs.Copies.{stamps_of}
use Rattle.conflict_flags.specs.Table.{Table}
use Rattle.conflict_flags.proofs.Places.{room, lacks_memory, does_grow}
use Rattle.conflict_flags.proofs.table.CopyTable.grow.Goals as goal

pub returns-in_default-stamps_of-clause-does : goal.returns-in_default-stamps_of-clause-does
returns-in_default-stamps_of-clause-does c =
    let left : part c.args.joined (c.args.site - 1) < 4294967295 = room c.args.joined c.in-Ok.vector (c.args.site - 1) c.part.result c.in-Ok.ensures.ok c.part.ensures (omega arith) in
    lacks_memory c.args.self.now c.args.site (stamps_of c.args.tops.now) c.args.joined (omega arith) (omega arith) left

pub returns-then-is_err-clause-does : goal.returns-then-is_err-clause-does
returns-then-is_err-clause-does c =
    let left : part c.args.joined (c.args.site - 1) < 4294967295 = room c.args.joined c.in-Ok.vector (c.args.site - 1) c.part.result c.in-Ok.ensures.ok c.part.ensures (omega arith) in
    let kept : c.push.new.self ≡ c.self.inside.history = search rules in
    let same : Table = record { history = c.push.new.self; copies = c.self.inside.copies } in
    let is : same ≡ c.args.self.now = ap (λ (h : List Version). (let t : Table = record { history = h; copies = c.self.inside.copies } in t)) kept ∙ c.self.view_is in
    rw is (lacks_memory c.args.self.now c.args.site (stamps_of c.args.tops.now) c.args.joined (omega arith) (omega arith) left)

pub returns-clause-does : goal.returns-clause-does
returns-clause-does c =
    let left : part c.args.joined (c.args.site - 1) < 4294967295 = room c.args.joined c.in-Ok.vector (c.args.site - 1) c.part.result c.in-Ok.ensures.ok c.part.ensures (omega arith) in
    does_grow c.args.self.now c.args.site c.place_of.result (stamps_of c.args.tops.now) c.args.joined c.in-Ok.vector (record { site = c.get.result; n = c.part.result })
    c.in-Ok-stamps_of.parents c.new.result c.self.inside.history c.push.new.self c.self.inside.copies
    (omega arith) (omega arith) left c.place_of.ensures.value
    (ap (λ (w : Table). w.history) c.self.view_is) (ap (λ (w : Table). w.copies) c.self.view_is)
    c.in-Ok.ensures.ok c.get.ensures.value c.part.ensures c.in-Ok-stamps_of.ensures c.new.ensures
    (search rules) (omega arith)
