-- An instance has one descriptor, or one call that closed it: what a record adds.
use Rattle.std.proofs.Common.{◌≡◌, ℕ, suc, ◌+◌, ◌==◌, ◌&&◌, ◌||◌, ◌≤◌, ◌⊎◌, inl, inr, not, Bool, true, false, cond, List, [], ◌∷◌, ◌++◌, length, filter, map, Option, Some, None, refl, sym, ap, subst, ◌∙◌, arith}
use Rattle.std.specs.Prelude.{sum_by}
use Rattle.std.specs.List.{find, list_any, AllByRecursion}
use Rattle.std.specs.Option.{option_map}
use Rattle.std.proofs.lemmas.List.{length-append}
use Rattle.std.proofs.lemmas.List.Sums.{sum_by-cons}
use Rattle.locus_ids.specs.declared.config.Config.{Config}
use Rattle.locus_ids.specs.declared.ids.EpochId.{EpochId}
use Rattle.locus_ids.specs.declared.ids.CallId.{CallId}
use Rattle.locus_ids.specs.declared.ids.Serial.{Serial}
use Rattle.commit_graph.specs.Versions.{same_file}
use Rattle.trace_book.specs.Same.{same_epoch, same_serial}
use Rattle.trace_book.specs.declared.call.Call.{Call}
use Rattle.trace_book.specs.declared.descriptor.Descriptor.{Descriptor}
use Rattle.trace_book.specs.declared.reply.Reply.{Reply}
use Rattle.trace_book.specs.declared.reply.Reply.TheVariants as reply
use Rattle.trace_book.specs.declared.record.Record.{Record}
use Rattle.trace_book.specs.declared.record.Record.TheVariants as rec
use Rattle.call_rules.specs.Descriptors.{beginning}
use Rattle.tree_model.specs.Working.{list_of}
use Rattle.promises.specs.Past.{Past, Site, CallSoFar, Copy, Named, site_at, epoch_at, table, is_on, is_close, is_named}
use Rattle.promises.specs.After.{after, change, is_freed, begun_call, is_ender, taken_by, held_again, is_reading}
use Rattle.promises.specs.Rows.{may_follow}
use Rattle.past_laws.proofs.Names.{false_true, none_some, some_same, both_parts, epoch_eq, epoch_test, serial_eq, serial_test}
use Rattle.past_laws.proofs.CallsLists.{each_more, many_left}
use Rattle.past_laws.proofs.Changing.{found_any, found_passes}
use Rattle.row_lists.proofs.ByPlace.{first_alone, none_changed}
use Rattle.row_lists.proofs.Reversed.{filter_append}
use Rattle.audit_laws.proofs.Tidy.Lists.{few_more}
use Rattle.past_laws.proofs.TreesLists.{length_map}
use Rattle.past_laws.proofs.SitesSay.{has_number}
use Rattle.plain_facts.proofs.Tests.{and_true}
use Rattle.audit_laws.specs.Tidy.Calls.{site_of}
use Rattle.audit_laws.specs.Tidy.Users.{is_closing, is_fd, describes, described, handles, numbers}
use Rattle.audit_laws.specs.Tidy.Tidy.{IsTidy}
use Rattle.audit_laws.proofs.Tidy.Sites.{sites_are, one_site}
use Rattle.audit_laws.proofs.Tidy.Answers.{AnswersOne, closed_as, epoch_sites}
use Rattle.audit_laws.proofs.Tidy.Numbers.{numbers_split, freed_fewer, freed_one, is_of, taken, answer_numbers}
use Rattle.audit_laws.proofs.Tidy.Beginnings.{BeginsOn, begins_so}
use Rattle.audit_laws.proofs.Tidy.Calls.{accepts}
use Rattle.audit_laws.proofs.Tidy.Turns.{turns_last, IsNoAccept}
use Rattle.audit_laws.proofs.Tidy.TiesGrants.{IsOfCall}

-- ---- sums over a list that is changed ----

at_most_self : (n : ℕ) → n ≤ n
at_most_self n = omega arith

sum_less : {X : Type 0} (h : X → ℕ) (which : X → Bool) (f : X → X) → ((x : X) → h (f x) ≤ h x) → (xs : List X) → sum_by h (change which f xs) ≤ sum_by h xs
sum_less h which f less [] = omega arith
sum_less {X} h which f less (x ∷ xs) = joined (h (cond (which x) (f x) x)) (h x) (sum_by h (change which f xs)) (sum_by h xs) (sum_by h (change which f (x ∷ xs))) (sum_by h (x ∷ xs)) (sum_by-cons h (cond (which x) (f x) x) (change which f xs)) (sum_by-cons h x xs) (at (which x)) (sum_less h which f less xs)
  where
    at : (b : Bool) → h (cond b (f x) x) ≤ h x
    at true = less x
    at false = at_most_self (h x)

    joined : (a b m n p q : ℕ) → p ≡ a + m → q ≡ b + n → a ≤ b → m ≤ n → p ≤ q
    joined a b m n p q e g k l = omega (arith, e, g, k, l)

-- where it falls for one that passes, it falls
sum_drops : {X : Type 0} (h : X → ℕ) (which : X → Bool) (f : X → X) → ((x : X) → h (f x) ≤ h x) → (xs : List X) → AllByRecursion (λ (x : X). which x ≡ true → h (f x) + 1 ≤ h x) xs → list_any which xs ≡ true → sum_by h (change which f xs) + 1 ≤ sum_by h xs
sum_drops h which f less [] drops there = false_true there
sum_drops {X} h which f less (x ∷ xs) drops there = at (which x) refl there (λ g. sum_drops h which f less xs drops.1 g)
  where
    here : (a b m n p q : ℕ) → p ≡ a + m → q ≡ b + n → a + 1 ≤ b → m ≤ n → p + 1 ≤ q
    here a b m n p q e g k l = omega (arith, e, g, k, l)

    rest : (b m n p q : ℕ) → p ≡ b + m → q ≡ b + n → m + 1 ≤ n → p + 1 ≤ q
    rest b m n p q e g l = omega (arith, e, g, l)

    at : (b : Bool) → which x ≡ b → (b || list_any which xs) ≡ true → (list_any which xs ≡ true → sum_by h (change which f xs) + 1 ≤ sum_by h xs) → sum_by h (cond b (f x) x ∷ change which f xs) + 1 ≤ sum_by h (x ∷ xs)
    at true e g later = here (h (f x)) (h x) (sum_by h (change which f xs)) (sum_by h xs) (sum_by h (f x ∷ change which f xs)) (sum_by h (x ∷ xs)) (sum_by-cons h (f x) (change which f xs)) (sum_by-cons h x xs) (drops.0 e) (sum_less h which f less xs)
    at false e g later = rest (h x) (sum_by h (change which f xs)) (sum_by h xs) (sum_by h (x ∷ change which f xs)) (sum_by h (x ∷ xs)) (sum_by-cons h x (change which f xs)) (sum_by-cons h x xs) (later g)

-- where one passes at most, it grows by no more than that one does
sum_grows : {X : Type 0} (h : X → ℕ) (which : X → Bool) (f : X → X) (n : ℕ) → ((x : X) → h (f x) ≤ h x + n) → (xs : List X) → length (filter which xs) ≤ 1 → sum_by h (change which f xs) ≤ sum_by h xs + n
sum_grows h which f n more [] few = omega arith
sum_grows {X} h which f n more (x ∷ xs) few = at (which x) refl (sum_grows h which f n more xs (few_more which x xs few))
  where
    here : (a b m p q : ℕ) → p ≡ a + m → q ≡ b + m → a ≤ b + n → p ≤ q + n
    here a b m p q e g k = omega (arith, e, g, k)

    rest : (b m k p q : ℕ) → p ≡ b + m → q ≡ b + k → m ≤ k + n → p ≤ q + n
    rest b m k p q e g l = omega (arith, e, g, l)

    at : (b : Bool) → which x ≡ b → sum_by h (change which f xs) ≤ sum_by h xs + n → sum_by h (cond b (f x) x ∷ change which f xs) ≤ sum_by h (x ∷ xs) + n
    at true e later = here (h (f x)) (h x) (sum_by h xs) (sum_by h (f x ∷ change which f xs)) (sum_by h (x ∷ xs)) (sum_by-cons h (f x) (change which f xs) ∙ ap (λ ys. h (f x) + sum_by h ys) (none_changed which f xs (first_alone which x xs e few))) (sum_by-cons h x xs) (more x)
    at false e later = rest (h x) (sum_by h (change which f xs)) (sum_by h xs) (sum_by h (x ∷ change which f xs)) (sum_by h (x ∷ xs)) (sum_by-cons h x (change which f xs)) (sum_by-cons h x xs) later

-- ---- closers ----

closing_of : (e : EpochId) (i : Serial) → IsOfCall (is_closing e i)
closing_of e i k l name process words epoch begins turn = λ j. is_on (begins j) e i && is_close (words j)

pub closers_same : (e : EpochId) (i : Serial) (c : Config) (p : Past) (r : Record) → IsTidy c p → may_follow c p r ≡ true → IsNoAccept r → length (filter (is_closing e i) (after c r p).calls) ≡ length (filter (is_closing e i) p.calls)
closers_same e i c p r tidy may n = sym (length_map (λ (k : CallSoFar). k.turn) (filter (is_closing e i) (after c r p).calls)) ∙ (ap length (turns_last (is_closing e i) (closing_of e i) c p r tidy may n) ∙ length_map (λ (k : CallSoFar). k.turn) (filter (is_closing e i) p.calls))

-- ---- descriptors ----

abbrev named_at : EpochId → Serial → Site → ℕ
named_at e i s = numbers e i s.descriptors

abbrev pub IsNoAnswer : Record → Type 0
IsNoAnswer (rec.Answer site process id r) = ⊥
IsNoAnswer _ = Unit {0}

described_kept : (e : EpochId) (i : Serial) (n : ℕ) (f : Site → Site) (sites : List Site) → ((s : Site) → named_at e i (f s) ≤ named_at e i s) → described e i (change (has_number n) f sites) ≤ described e i sites
described_kept e i n f sites less = sum_less (named_at e i) (has_number n) f less sites

through : (a b d : ℕ) → a ≤ b → b ≤ d → a ≤ d
through a b d h k = omega (arith, h, k)

pub described_fewer : (e : EpochId) (i : Serial) (c : Config) (p : Past) (r : Record) → IsNoAnswer r → described e i (after c r p).sites ≤ described e i p.sites
described_fewer e i c p (rec.Up site boot) n = described_kept e i site (λ s. record s { up = true; boot = boot; joined = None; accepted = 0 }) p.sites (λ s. at_most_self (named_at e i s))
described_fewer e i c p (rec.Stopped site cause) n = through (described e i (after c (rec.Stopped site cause) p).sites) (described e i (change (has_number site) (λ s. record s { epoch = None }) p.sites)) (described e i p.sites)
    (described_kept e i site (λ s. record s { up = false; descriptors = [] }) (change (has_number site) (λ s. record s { epoch = None }) p.sites) (λ s. omega arith))
    (described_kept e i site (λ s. record s { epoch = None }) p.sites (λ s. at_most_self (named_at e i s)))
described_fewer e i c p (rec.Leave site d) n = described_kept e i site (λ s. record s { epoch = None }) p.sites (λ s. at_most_self (named_at e i s))
described_fewer e i c p (rec.Join site d members) n = subst (λ ss. described e i (change (has_number site) (λ s. record s { epoch = Some d; joined = Some d }) ss) ≤ described e i p.sites) (sym (epoch_sites d members p)) (described_kept e i site (λ s. record s { epoch = Some d; joined = Some d }) p.sites (λ s. at_most_self (named_at e i s)))
described_fewer e i c p (rec.Start d group copies) n = at_most_self (described e i p.sites)
described_fewer e i c p (rec.Accept site process id words) n = described_kept e i site (λ s. record s { accepted = s.accepted + 1; descriptors = filter (λ d. not (is_freed words process d)) s.descriptors }) p.sites (λ s. freed_fewer e i words process s.descriptors)
described_fewer e i c p (rec.Look d id request f w result) n = at_most_self (described e i p.sites)
described_fewer e i c p (rec.Grant d id request j m f stamp ss) n = at_most_self (described e i p.sites)
described_fewer e i c p (rec.Refuse d id request j m f why) n = at_most_self (described e i p.sites)
described_fewer e i c p (rec.Act d j m o result) n = at_most_self (described e i p.sites)
described_fewer e i c p (rec.Commit f site stamp parents content) n = described_kept e i site (λ s. record s { held = record { file = f; stamp = stamp } ∷ filter (λ (v : Copy). not (same_file v.file f)) s.held }) p.sites (λ s. at_most_self (named_at e i s))
described_fewer e i c p (rec.Release d j f stamp) n = subst (λ (q : Past). described e i q.sites ≤ described e i p.sites) (sym (closed_as (is_ender (epoch_at p d) j) stamp p (filter (is_named j) (epoch_at p d).opened))) (at_most_self (described e i p.sites))
described_fewer e i c p (rec.Adopt f site stamp) n = described_kept e i site (λ s. record s { held = record { file = f; stamp = stamp } ∷ filter (λ (v : Copy). not (same_file v.file f)) s.held }) p.sites (λ s. at_most_self (named_at e i s))
described_fewer e i c p (rec.Answer site process id r) n = absurd n
described_fewer e i c p (rec.Packet number from to kind) n = at_most_self (described e i p.sites)
described_fewer e i c p rec.Void n = at_most_self (described e i p.sites)
described_fewer e i c p rec.Budget n = at_most_self (described e i p.sites)

-- ---- a close ----

-- the descriptor that a close frees is one of the instance
close_frees : (e : EpochId) (i : Serial) (p : Past) (site process : ℕ) (words : Call) → BeginsOn (table p site process) (site_at p site).epoch words e i → is_close words ≡ true → numbers e i (filter (λ d. not (is_freed words process d)) (site_at p site).descriptors) + 1 ≤ numbers e i (site_at p site).descriptors
close_frees e i p site process words it closes = subst (λ (w : Call). numbers e i (filter (λ d. not (is_freed w process d)) (site_at p site).descriptors) + 1 ≤ numbers e i (site_at p site).descriptors) (sym (it.closes closes))
    (freed_one e i process it.fd (site_at p site).descriptors (at (find (is_fd process it.fd) (site_at p site).descriptors) refl it.found))
  where
    at : (o : Option Named) → find (is_fd process it.fd) (site_at p site).descriptors ≡ o → option_map (λ (d : Named). d.names) o ≡ Some it.names → list_any (λ d. describes e i d && is_fd process it.fd d) (site_at p site).descriptors ≡ true
    at None f g = none_some it.names g
    at (Some d) f g = (let is : d.names ≡ it.names = some_same d.names it.names g in
        found_any (is_fd process it.fd) (λ x. describes e i x && is_fd process it.fd x) (site_at p site).descriptors d f
        (and_true (describes e i d) (is_fd process it.fd d)
        (and_true (same_epoch d.names.epoch e) (same_serial d.names.inst i) (epoch_test d.names.epoch e (ap (λ (x : Descriptor). x.epoch) is ∙ it.epoch_is)) (serial_test d.names.inst i (ap (λ (x : Descriptor). x.inst) is ∙ it.inst_is)))
        (found_passes (is_fd process it.fd) (site_at p site).descriptors d f)))

-- ---- accepted calls ----

accept_fewer : (e : EpochId) (i : Serial) (c : Config) (p : Past) (site process : ℕ) (id : CallId) (words : Call) → IsTidy c p → may_follow c p (rec.Accept site process id words) ≡ true → handles e i (after c (rec.Accept site process id words) p) ≤ handles e i p
accept_fewer e i c p site process id words tidy may = at (is_on k.begins e i) (is_close words) refl refl
  where
    k : CallSoFar
    k = begun_call p site process id words (beginning (table p site process) (site_at p site).epoch id words)

    new : List Site
    new = change (has_number site) (λ s. record s { accepted = s.accepted + 1; descriptors = filter (λ d. not (is_freed words process d)) s.descriptors }) p.sites

    fewer : described e i new ≤ described e i p.sites
    fewer = described_fewer e i c p (rec.Accept site process id words) tt

    drops : is_on k.begins e i ≡ true → is_close words ≡ true → described e i new + 1 ≤ described e i p.sites
    drops on closes = sum_drops (named_at e i) (has_number site) (λ s. record s { accepted = s.accepted + 1; descriptors = filter (λ d. not (is_freed words process d)) s.descriptors }) (λ s. freed_fewer e i words process s.descriptors) p.sites
        (each_more (λ (s : Site). has_number site s ≡ true → site_of p.sites site ≡ s) (λ (s : Site). has_number site s ≡ true → numbers e i (filter (λ d. not (is_freed words process d)) s.descriptors) + 1 ≤ named_at e i s)
        (λ s h g. subst (λ (x : Site). numbers e i (filter (λ d. not (is_freed words process d)) x.descriptors) + 1 ≤ numbers e i x.descriptors) (h g) (close_frees e i p site process words (begins_so (table p site process) (site_at p site).epoch id words e i on) closes))
        p.sites (sites_are c p.sites tidy.sites site))
        (accepts c p site process id words tidy.sites may).there

    more : (m a b : ℕ) → a + 1 ≤ b → suc m + a ≤ m + b
    more m a b h = omega (arith, h)

    same : (m a b : ℕ) → a ≤ b → m + a ≤ m + b
    same m a b h = omega (arith, h)

    at : (x y : Bool) → is_on k.begins e i ≡ x → is_close words ≡ y → length (filter (is_closing e i) (k ∷ p.calls)) + described e i new ≤ length (filter (is_closing e i) p.calls) + described e i p.sites
    at true true g h = rw (g, h) (more (length (filter (is_closing e i) p.calls)) (described e i new) (described e i p.sites) (drops g h))
    at true false g h = rw (g, h) (same (length (filter (is_closing e i) p.calls)) (described e i new) (described e i p.sites) fewer)
    at false y g h = rw g (same (length (filter (is_closing e i) p.calls)) (described e i new) (described e i p.sites) fewer)

-- ---- all records but replies ----

other_fewer : (e : EpochId) (i : Serial) (c : Config) (p : Past) (r : Record) → IsTidy c p → may_follow c p r ≡ true → IsNoAccept r → IsNoAnswer r → handles e i (after c r p) ≤ handles e i p
other_fewer e i c p r tidy may n m = sums (length (filter (is_closing e i) (after c r p).calls)) (length (filter (is_closing e i) p.calls)) (described e i (after c r p).sites) (described e i p.sites) (closers_same e i c p r tidy may n) (described_fewer e i c p r m)
  where
    sums : (a b x y : ℕ) → a ≡ b → x ≤ y → a + x ≤ b + y
    sums a b x y h k = omega (arith, h, k)

pub handles_fewer : (e : EpochId) (i : Serial) (c : Config) (p : Past) (r : Record) → IsTidy c p → may_follow c p r ≡ true → IsNoAnswer r → handles e i (after c r p) ≤ handles e i p
handles_fewer e i c p (rec.Accept site process id words) tidy may m = accept_fewer e i c p site process id words tidy may
handles_fewer e i c p (rec.Answer site process id r) tidy may m = absurd m
handles_fewer e i c p (rec.Up site boot) tidy may m = other_fewer e i c p (rec.Up site boot) tidy may tt tt
handles_fewer e i c p (rec.Stopped site cause) tidy may m = other_fewer e i c p (rec.Stopped site cause) tidy may tt tt
handles_fewer e i c p (rec.Leave site d) tidy may m = other_fewer e i c p (rec.Leave site d) tidy may tt tt
handles_fewer e i c p (rec.Join site d members) tidy may m = other_fewer e i c p (rec.Join site d members) tidy may tt tt
handles_fewer e i c p (rec.Start d group copies) tidy may m = other_fewer e i c p (rec.Start d group copies) tidy may tt tt
handles_fewer e i c p (rec.Look d id request f w result) tidy may m = other_fewer e i c p (rec.Look d id request f w result) tidy may tt tt
handles_fewer e i c p (rec.Grant d id request j mode f stamp ss) tidy may m = other_fewer e i c p (rec.Grant d id request j mode f stamp ss) tidy may tt tt
handles_fewer e i c p (rec.Refuse d id request j mode f why) tidy may m = other_fewer e i c p (rec.Refuse d id request j mode f why) tidy may tt tt
handles_fewer e i c p (rec.Act d j n o result) tidy may m = other_fewer e i c p (rec.Act d j n o result) tidy may tt tt
handles_fewer e i c p (rec.Commit f site stamp parents content) tidy may m = other_fewer e i c p (rec.Commit f site stamp parents content) tidy may tt tt
handles_fewer e i c p (rec.Release d j f stamp) tidy may m = other_fewer e i c p (rec.Release d j f stamp) tidy may tt tt
handles_fewer e i c p (rec.Adopt f site stamp) tidy may m = other_fewer e i c p (rec.Adopt f site stamp) tidy may tt tt
handles_fewer e i c p (rec.Packet number from to kind) tidy may m = other_fewer e i c p (rec.Packet number from to kind) tidy may tt tt
handles_fewer e i c p rec.Void tidy may m = other_fewer e i c p rec.Void tidy may tt tt
handles_fewer e i c p rec.Budget tidy may m = other_fewer e i c p rec.Budget tidy may tt tt

-- ---- replies ----

pub answer_handles : (e : EpochId) (i : Serial) (c : Config) (p : Past) (site process : ℕ) (id : CallId) (r : Reply) → IsTidy c p → may_follow c p (rec.Answer site process id r) ≡ true → (it : AnswersOne c p site process id r) → handles e i (after c (rec.Answer site process id r) p) ≤ handles e i p + taken e i r it.call
answer_handles e i c p site process id r tidy may it = sums (length (filter (is_closing e i) (after c (rec.Answer site process id r) p).calls)) (length (filter (is_closing e i) p.calls)) (described e i (after c (rec.Answer site process id r) p).sites) (described e i p.sites)
    (closers_same e i c p (rec.Answer site process id r) tidy may tt)
    (subst (λ (q : Past). described e i q.sites ≤ described e i p.sites + taken e i r it.call) (sym it.told)
    (sum_grows (named_at e i) (has_number it.call.id.site) (λ s. record s { descriptors = taken_by r it.call ++ held_again r it.call s.descriptors }) (taken e i r it.call) (λ s. answer_numbers e i r it.call s.descriptors) p.sites (one_site c p.sites tidy.sites.numbers it.call.id.site)))
  where
    sums : (a b x y : ℕ) → a ≡ b → x ≤ y + taken e i r it.call → a + x ≤ (b + y) + taken e i r it.call
    sums a b x y h k = omega (arith, h, k)

-- what a reply names is the instance that was granted to its call
pub record TakesIt (e : EpochId) (i : Serial) (k : CallSoFar) : Type 0 where
  pub names : Descriptor
  pub granted : k.granted ≡ Some names
  pub epoch_is : names.epoch ≡ e
  pub inst_is : names.inst ≡ i

grants_it : (e : EpochId) (i : Serial) (k : CallSoFar) (o : Option Descriptor) → k.granted ≡ o → (length (filter (is_of e i) (list_of o)) ≡ 0) ⊎ ((length (filter (is_of e i) (list_of o)) ≤ 1) × TakesIt e i k)
grants_it e i k None g = inl refl
grants_it e i k (Some d) g = at (is_of e i d) refl
  where
    at : (b : Bool) → is_of e i d ≡ b → (length (cond b (d ∷ []) []) ≡ 0) ⊎ ((length (cond b (d ∷ []) []) ≤ 1) × TakesIt e i k)
    at true h = (let parts : (same_epoch d.epoch e ≡ true) × (same_serial d.inst i ≡ true) = both_parts (same_epoch d.epoch e) (same_serial d.inst i) h in
        inr (omega arith, record { names = d; granted = g; epoch_is = epoch_eq d.epoch e parts.0; inst_is = serial_eq d.inst i parts.1 }))
    at false h = inl refl

pub takes_it : (e : EpochId) (i : Serial) (r : Reply) (k : CallSoFar) → (taken e i r k ≡ 0) ⊎ ((taken e i r k ≤ 1) × TakesIt e i k)
takes_it e i (reply.Opened fd) k = grants_it e i k k.granted refl
takes_it e i (reply.Data bytes) k = by (is_reading k.words)
  where
    by : (b : Bool) → (length (filter (is_of e i) (cond b (list_of k.granted) [])) ≡ 0) ⊎ ((length (filter (is_of e i) (cond b (list_of k.granted) [])) ≤ 1) × TakesIt e i k)
    by true = grants_it e i k k.granted refl
    by false = inl refl
takes_it e i r k = inl refl
