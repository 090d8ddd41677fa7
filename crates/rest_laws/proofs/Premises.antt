-- What the steps of synchronization sites rest on, from all that was told so far.
use Rattle.std.proofs.Common.{◌≡◌, ◌≤◌, ◌<◌, ◌^◌, ℕ, ◌&&◌, min, nat_lt, Bool, true, false, List, Option, Some, None, refl, sym, ◌∙◌, subst, arith, ◌+◌}
use Rattle.std.proofs.lemmas.Bool.Decides.{nat_tests}
use Rattle.std.proofs.Math.Pow.{pow_mono}
use Rattle.std.specs.Option.{option_map}
use Rattle.locus_ids.specs.declared.config.Config.{Config}
use Rattle.locus_ids.specs.declared.ids.CallId.{CallId}
use Rattle.locus_ids.specs.declared.ids.EpochId.{EpochId}
use Rattle.locus_ids.specs.declared.sites.Sites.{Sites}
use Rattle.locus_ids.specs.Sizes.{set_span, sites_max}
use Rattle.schedule_lines.specs.Ranges.{is_some_sites, is_word}
use Rattle.trace_book.specs.declared.call.Call.{Call}
use Rattle.trace_book.specs.declared.call.Call.TheVariants as call
use Rattle.the_run.specs.Worlds.{Line}
use Rattle.tree_model.specs.declared.accepted.Waiting.{Waiting}
use Rattle.tree_model.specs.Calls.{call_named}
use Rattle.tree_model.specs.Opening.{sites_made}
use Rattle.tree_model.specs.Packs.{packs_of}
use Rattle.tree_laws.specs.Printed.{entries}
use Rattle.store_laws.specs.of_tree_laws.Orders.Joining.{PacksAreOfSites}
use Rattle.store_laws.proofs.Holdings.Below.{commits_new, packs_hold}
use Rattle.store_laws.proofs.Holdings.Holding.{sites_hold, stands_on_held}
use Rattle.store_laws.proofs.Holdings.MendOnly.{only_had}
use Rattle.store_laws.proofs.Holdings.MendWhole.{whole_kept}
use Rattle.store_laws.proofs.Said.{asked_as_said}
use Rattle.store_laws.specs.of_tree_laws.Syncs.Making.{MakesAreSaid}
use Rattle.store_laws.specs.of_tree_laws.Syncs.Serving.{CallsAreKnown, FilesAreOrdered}
use Rattle.store_laws.proofs.OneTree.NumberSaid.{making_said}
use Rattle.store_laws.specs.OneTree.Rest.{AskedCall, Past, RangeCall}
use Rattle.store_laws.proofs.OneTree.Staying.{rest_below}
use Rattle.rest_laws.specs.Asking.{OpensAreSaid}
use Rattle.rest_laws.proofs.StoreStepKnown.{known_call}

-- ---- synchronization sites ----

pub files_ordered : (c : Config) (t : List Line) → Past c t → (e : EpochId) → FilesAreOrdered c t e
files_ordered c t past e = record {
  only = λ f site v only k. only_had c t e f site v past.followed (rest_below c t past.rest) only k;
  reads = λ i x found reads. (stands_on_held c t past.followed e i x found).reads reads;
  joined = λ site f stamp held. (sites_hold c (entries t) (packs_hold c t (rest_below c t past.rest).packed)).joined e site f stamp held;
}

below_seventeen : (s : ℕ) → s ≤ sites_max → s < sites_max + 1
below_seventeen s h = omega (arith, h)

pub calls_known : (c : Config) (t : List Line) → Past c t → OpensAreSaid c t → CallsAreKnown c t
calls_known c t past said = record {
  small = λ d w named. (known_call c t past.followed past.rest.each d w named).small;
  narrow = λ d w named. below_seventeen d.site (known_call c t past.followed past.rest.each d w named).site.high;
  only = λ d w named zero. (known_call c t past.followed past.rest.each d w named).only zero;
  numbered = said.numbered;
  resolves = said.resolves;
  wholes = λ e d f stamp inside asks. whole_kept c t e d f stamp past.rest.packs past.followed (commits_new c t past.followed (rest_below c t past.rest).once) inside asks;
}

-- ---- makes ----

pub some_low : (n : ℕ) (set : Sites) → is_some_sites n set ≡ true → set.0 < set_span
some_low n set h = within (2 ^ min n sites_max) set_span (second (nat_lt 0 set.0) (nat_lt set.0 (2 ^ min n sites_max)) h) (pow_mono (capped n))
  where
    capped : (k : ℕ) → min k sites_max ≤ sites_max
    capped k = omega arith

    second : (a b : Bool) → a && b ≡ true → b ≡ true
    second true b h = h
    second false b h = absurd (cc)

    within : (a b : ℕ) → nat_lt set.0 a ≡ true → a ≤ b → set.0 < b
    within a b h le = grind (arith, nat_tests)

copies_fit : (c : Config) (s process : ℕ) (path : List ℕ) (set : Sites) → AskedCall c s process (call.Create path (Some set)) → set.0 < set_span
copies_fit c s process path set k = some_low c.sites set (second (is_word path) (is_some_sites c.sites set) k.fits)
  where
    second : (a b : Bool) → a && b ≡ true → b ≡ true
    second true b h = h
    second false b h = absurd (cc)

made_fits : (c : Config) (group s process : ℕ) → PacksAreOfSites c → (words : Call) → RangeCall c s process words → (sites_made (packs_of c group) (Some words)).0 < set_span
made_fits c group s process packs (call.Create path (Some set)) k = copies_fit c s process path set k
made_fits c group s process packs (call.Create path None) k = packs group
made_fits c group s process packs _ k = packs group

some_fits : (c : Config) (t : List Line) (group : ℕ) (d : CallId) → Past c t → (o : Option Waiting) → call_named (entries t) d ≡ o → (sites_made (packs_of c group) (option_map (λ (w : Waiting). w.words) o)).0 < set_span
some_fits c t group d past None e = past.rest.packs group
some_fits c t group d past (Some w) e = made_fits c group d.site w.process past.rest.packs w.words (known_call c t past.followed past.rest.each d w e).range

pub makes_said : (c : Config) (t : List Line) → Past c t → MakesAreSaid c t
makes_said c t past = record {
  said = λ e d request serial file set k asks. making_said c t e d file.group ∙ sym (asked_as_said c t e d request serial file set k asks).0;
  fits = λ e d request serial file set k asks. subst (λ (z : Sites). z.0 < set_span) (sym (asked_as_said c t e d request serial file set k asks).0) (some_fits c t file.group d past (call_named (entries t) d) refl);
}
