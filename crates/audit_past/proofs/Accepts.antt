-- What an accepted call makes of the past, where its beginning and its turn are at hand.
use Rattle.std.proofs.Common.{ℕ, ◌≡◌, List, ◌∷◌, Option, refl, ap, ◌∙◌}
use Rattle.locus_ids.specs.declared.config.Config.{Config}
use Rattle.locus_ids.specs.declared.ids.CallId.{CallId}
use Rattle.locus_ids.specs.declared.ids.EpochId.{EpochId}
use Rattle.trace_book.specs.declared.call.Call.{Call}
use Rattle.trace_book.specs.declared.descriptor.Beginning.{Beginning}
use Rattle.trace_book.specs.declared.record.Record.TheVariants as rec
use Rattle.call_rules.specs.Descriptors.{beginning, lowest_free}
use Rattle.promises.specs.Past.{Past, Accepting, CallSoFar, Epoch, Site, site_at}
use Rattle.promises.specs.After.{after, change}
use Rattle.audit_sites.specs.Rows.{accepts, named_at, with_site}
use Rattle.audit_calls.specs.Rows.{begun}
use Rattle.audit_epochs.specs.Changes.{accepts as accepts_in, is_home, turn_among}

pub accepted_so : (c : Config) (p : Past) (site process : ℕ) (id : CallId) (words : Call) (row : Site) (b : Beginning) (home : Option EpochId) (free : Option ℕ) (turn : ℕ) →
    row ≡ site_at p site → b ≡ beginning (named_at row process) row.epoch id words → home ≡ row.epoch → free ≡ lowest_free (named_at row process) → turn ≡ turn_among p.epochs b words →
    record p {
      sites = with_site site (accepts process words) p.sites;
      epochs = change (is_home home) (accepts_in b words) p.epochs;
      calls = begun (record { id = id; process = process; epoch = home; free = free; turn = turn }) words b ∷ p.calls;
      last = Accepting id;
    } ≡ after c (rec.Accept site process id words) p
accepted_so c p site process id words row b home free turn r e h f t = rw (t, f, h, e, r) refl

-- the same of tables that show the past
pub accepted_view : (c : Config) (p q : Past) → p ≡ q → (site process : ℕ) (id : CallId) (words : Call) (row : Site) (b : Beginning) (home : Option EpochId) (free : Option ℕ) (turn : ℕ) (ss : List Site) (ts : List Epoch) (k : CallSoFar) (ks : List CallSoFar) →
    row ≡ site_at p site → b ≡ beginning (named_at row process) row.epoch id words → home ≡ row.epoch → free ≡ lowest_free (named_at row process) → turn ≡ turn_among p.epochs b words →
    ss ≡ with_site site (accepts process words) p.sites → ts ≡ change (is_home home) (accepts_in b words) p.epochs → k ≡ begun (record { id = id; process = process; epoch = home; free = free; turn = turn }) words b → ks ≡ k ∷ p.calls →
    record p { sites = ss; epochs = ts; calls = ks; last = Accepting id } ≡ after c (rec.Accept site process id words) q
accepted_view c p q same site process id words row b home free turn ss ts k ks r e h f t s x y z =
    ap (λ us. record p { sites = us; epochs = ts; calls = ks; last = Accepting id }) s
    ∙ (ap (λ us. record p { sites = with_site site (accepts process words) p.sites; epochs = us; calls = ks; last = Accepting id }) x
    ∙ (ap (λ us. record p { sites = with_site site (accepts process words) p.sites; epochs = change (is_home home) (accepts_in b words) p.epochs; calls = us; last = Accepting id }) (z ∙ ap (λ u. u ∷ p.calls) y)
    ∙ (accepted_so c p site process id words row b home free turn r e h f t ∙ ap (after c (rec.Accept site process id words)) same)))
