use Rattle.std.proofs.Common.{◌≡◌, ℕ, ◌-◌, List, sym, ◌∙◌}
use Rattle.locus_ids.specs.declared.ids.Stamp.{Stamp}
use Rattle.version_vector.specs.Counters.{part}
use Rattle.commit_graph.specs.declared.history.Version.{Version}
use Rattle.commit_graph.specs.Vectors.{vector_of}
use Rattle.conflict_flags.specs.declared.events.Event.{Event}
use Rattle.conflict_flags.specs.Written.{written}
use Rattle.conflict_flags.specs.Table.{run, start, the_file}
use Rattle.conflict_flags.proofs.Vectors.{vector-written, alike_le}
use Rattle.conflict_flags.proofs.Ancestors.{tells, chained}
use Rattle.conflict_flags.proofs.Numbers.{counts_ancestors}
use Rattle.conflict_flags.proofs.Kept.{start_good, run_good, own_ancestors}
use Rattle.conflict_flags.proofs.laws.vectors_tell_ancestors.Goals as goal

pub returns-clause-once : goal.returns-clause-once
returns-clause-once c events = (run_good events start start_good).once

alike : (events : List Event) (b : Stamp) (t : ℕ) → part (written (run events start).history the_file b) t ≡ part (vector_of (run events start).history the_file b) t
alike events b t = let good = run_good events start start_good in vector-written the_file (run events start).history good.count good.own b t

pub returns-clause-tell : goal.returns-clause-tell
returns-clause-tell c events a b ha hb =
    let good = run_good events start start_good in
    let h : List Version = (run events start).history in
    let law = tells the_file h good.count good.once a b ha hb in (
      (λ e. alike_le (written h the_file a) (written h the_file b) _ _ (alike events a) (alike events b) (law.0 e)),
      (λ le. law.1 (alike_le (vector_of h the_file a) (vector_of h the_file b) _ _ (λ t. sym (alike events a t)) (λ t. sym (alike events b t)) le)),
    )

pub returns-clause-there : goal.returns-clause-there
returns-clause-there c events site copy e = ((run_good events start start_good).copies (site - 1) copy e).there

pub returns-clause-held : goal.returns-clause-held
returns-clause-held c events site copy e place = ((run_good events start start_good).copies (site - 1) copy e).vector place ∙ alike events copy.stamp place

pub returns-clause-chain : goal.returns-clause-chain
returns-clause-chain c events a b ha hb site le = let good = run_good events start start_good in chained the_file (run events start).history good.count a b ha hb site le

pub returns-clause-own : goal.returns-clause-own
returns-clause-own c events a copy ha e = own_ancestors (run events start) (run_good events start start_good) a copy ha e

pub returns-clause-numbered : goal.returns-clause-numbered
returns-clause-numbered c events = (run_good events start start_good).numbers

pub returns-clause-counted : goal.returns-clause-counted
returns-clause-counted c events a site ha low =
    let good = run_good events start start_good in
    sym (alike events a (site - 1)) ∙ counts_ancestors the_file (run events start).history good.count good.once good.numbers a site ha low
