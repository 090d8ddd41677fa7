use Rattle.std.proofs.Common.{◌∙◌, ap, sym, length, arith}
use Rattle.audit_calls.proofs.Waits.{all_replied, ended_at, one_replied, stands_nowhere, stands_there}
use Rattle.audit_calls.proofs.Settled.{within_at}
use Rattle.audit_calls.proofs.settling.end_all_at.Goals as goal

pub end_at-requires : goal.end_at-requires
end_at-requires c =
    let s = stands_there c.args.site c.loop-place.rows.items c.loop-place.waiting.items c.as_slice.result.now c.first_at.result c.in-Some.place c.as_slice.ensures.value c.loop-place.invariant.stand c.first_at.ensures c.in-Some.is in
    within_at c.loop-place.rows.items c.in-Some.place s.row s.row_is

pub loop-place-smaller : goal.loop-place-smaller
loop-place-smaller c =
    let s = stands_there c.args.site c.loop-place.rows.items c.loop-place.waiting.items c.as_slice.result.now c.first_at.result c.in-Some.place c.as_slice.ensures.value c.loop-place.invariant.stand c.first_at.ensures c.in-Some.is in
    omega (arith, ap length c.end_at.ensures.waiting, s.fewer)

pub loop-place-preserved : goal.loop-place-preserved
loop-place-preserved c =
    let s = stands_there c.args.site c.loop-place.rows.items c.loop-place.waiting.items c.as_slice.result.now c.first_at.result c.in-Some.place c.as_slice.ensures.value c.loop-place.invariant.stand c.first_at.ensures c.in-Some.is in
    let new = c.end_at.ensures.rows s.row s.row_is in
    record {
      same = ap (all_replied c.args.site) new ∙ (one_replied c.args.site c.loop-place.rows.items c.in-Some.place s.row s.row_is s.at_site ∙ c.loop-place.invariant.same);
      stand = ended_at c.loop-place.rows.items c.end_at.new.rows.items c.loop-place.waiting.items c.end_at.new.waiting.items c.in-Some.place s.row c.loop-place.invariant.stand new c.end_at.ensures.waiting;
    }

pub returns-clause-rows : goal.returns-clause-rows
returns-clause-rows c = sym (stands_nowhere c.args.site c.loop-place.rows.items c.loop-place.waiting.items c.as_slice.result.now c.first_at.result c.as_slice.ensures.value c.loop-place.invariant.stand c.first_at.ensures c.in_default.is) ∙ c.loop-place.invariant.same
