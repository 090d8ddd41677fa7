use Rattle.std.proofs.Common.{◌+◌, ◌∙◌, refl, arith}
use Rattle.std.proofs.lemmas.Result.{err_from_is_err_and}
use Rattle.std.proofs.lemmas.List.{length-set}
use Rattle.wire_fields.proofs.Members.{no_boots, with_boots, entries_times, boots_more, boots_end, boots_done, members_read, members_err}
use Rattle.wire_parts.proofs.memberships.read_members.Goals as goal

pub loop-preserved : goal.loop-preserved
loop-preserved c = record {
  all = boots_more c.loop.boot c.loop.least c.in_ok-count.count c.loop.counter c.loop.fields (with_boots no_boots (entries_times 1 c.in_ok-count.count c.get_u8.new.self)) (c.in_ok-site.site, c.in_ok-number.number) c.read_number.new.fields
      c.loop-test.true (rw (c.in_ok-site.ensures.read, c.in_ok-number.ensures) refl) c.loop.invariant.all;
  sites = length-set c.loop.boot _ c.in_ok-number.number ∙ c.loop.invariant.sites;
  low = omega arith;
}

pub returns-in_err-site : goal.returns-in_err-site
returns-in_err-site c =
    let p = err_from_is_err_and c.from_residual-in_err-site.result c.from_residual-in_err-site.ensures.1 in
    let all = entries_times 1 c.in_ok-count.count c.get_u8.new.self in
    rw (p.1, p.2, c.in_ok-count.ensures.read)
    (members_err all c.in_err-site.field-0.0 (boots_end c.loop.boot c.loop.least c.in_ok-count.count c.loop.counter c.loop.fields (with_boots no_boots all) c.in_err-site.field-0.0 c.loop-test.true (rw c.in_err-site.ensures.read refl) c.loop.invariant.all))

pub returns-in_err-number : goal.returns-in_err-number
returns-in_err-number c =
    let p = err_from_is_err_and c.from_residual-in_err-number.result c.from_residual-in_err-number.ensures.1 in
    let all = entries_times 1 c.in_ok-count.count c.get_u8.new.self in
    rw (p.1, p.2, c.in_ok-count.ensures.read)
    (members_err all c.in_err-number.field-0.0 (boots_end c.loop.boot c.loop.least c.in_ok-count.count c.loop.counter c.loop.fields (with_boots no_boots all) c.in_err-number.field-0.0 c.loop-test.true (rw (c.in_ok-site.ensures.read, c.in_err-number.ensures) refl) c.loop.invariant.all))

pub returns : goal.returns
returns c =
    let all = entries_times 1 c.in_ok-count.count c.get_u8.new.self in
    rw c.in_ok-count.ensures.read
    (members_read all c.loop.fields c.loop.boot (boots_done c.loop.boot c.loop.least c.in_ok-count.count c.loop.counter c.loop.fields (with_boots no_boots all) c.loop-test.false c.loop.invariant.all))
