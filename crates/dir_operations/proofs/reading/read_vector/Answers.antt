use Rattle.std.proofs.Common.{◌≡◌, ◌≤◌, ◌<◌, length, sym, ap, ◌∙◌, take, Ok, rules, arith}
use Rattle.std.proofs.lemmas.List.{take_more_set, take_all}
use Rattle.std.proofs.lemmas.Result.{err_from_is_err_and}
use Rattle.locus_ids.specs.Sizes.{sites_max}
use Rattle.field_codec.specs.Codec.{u32}
use Rattle.field_codec.specs.Lists.{read_times}
use Rattle.field_codec.proofs.Loop.{goes_on, ends, is_done}
use Rattle.dir_operations.proofs.reading.read_vector.Goals as goal

pub returns-in_err-counters : goal.returns-in_err-counters
returns-in_err-counters c =
    let p = err_from_is_err_and c.from_residual.result c.from_residual.ensures.1 in
    rw (p.1, p.2)
    (ends (λ (_ : Unit {0}). u32) (λ _ _. tt) (take c.loop-i.i c.loop-i.counters) tt sites_max c.loop-i.i c.loop-i.fields c.in_err-counters.field-0.0
    (read_times (λ (_ : Unit {0}). u32) (λ _ _. tt) tt sites_max c.args.fields.now) c.loop-i-test.true c.in_err-counters.ensures.read c.loop-i.invariant.all)

pub loop-i-preserved : goal.loop-i-preserved
loop-i-preserved c =
    let lt : c.loop-i.i < length c.loop-i.counters = omega (arith, c.loop-i.invariant.sites, c.loop-i-test.true) in
    record {
      sites = search (rules, c.loop-i.invariant.sites);
      all = rw (take_more_set c.loop-i.counters c.loop-i.i c.in_ok-counters.field-0 lt)
          (goes_on (λ (_ : Unit {0}). u32) (λ _ _. tt) (take c.loop-i.i c.loop-i.counters) tt sites_max c.loop-i.i c.loop-i.fields c.in_ok-counters.field-0 c.get_u32.new.self
          (read_times (λ (_ : Unit {0}). u32) (λ _ _. tt) tt sites_max c.args.fields.now) c.loop-i-test.true c.in_ok-counters.ensures.read c.loop-i.invariant.all);
    }

pub returns : goal.returns
returns c =
    let n : sites_max ≤ c.loop-i.i = c.loop-i-test.false in
    let whole : take c.loop-i.i c.loop-i.counters ≡ c.from_parts.result = take_all c.loop-i.i c.loop-i.counters (omega (arith, c.loop-i.invariant.sites, n)) ∙ sym c.from_parts.ensures in
    is_done (λ (_ : Unit {0}). u32) (λ _ _. tt) (take c.loop-i.i c.loop-i.counters) tt sites_max c.loop-i.i c.loop-i.fields
    (read_times (λ (_ : Unit {0}). u32) (λ _ _. tt) tt sites_max c.args.fields.now) n c.loop-i.invariant.all
    ∙ ap (λ v. Ok (v, c.loop-i.fields)) whole
