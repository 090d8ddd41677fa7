-- Calls stand by each record that may follow.
use Rattle.std.proofs.Common.{◌≡◌, ℕ, ◌+◌, ◌==◌, ◌&&◌, ◌||◌, ◌≤◌, ◌<◌, inl, inr, not, Bool, true, false, cond, List, [], ◌∷◌, ◌++◌, length, filter, Option, None, refl, sym, ap, subst, ◌∙◌, arith}
use Rattle.std.specs.Prelude.{fold}
use Rattle.std.proofs.lemmas.Bool.Decides.{nat_tests}
use Rattle.std.specs.List.{list_any}
use Rattle.locus_ids.specs.declared.config.Config.{Config}
use Rattle.locus_ids.specs.declared.ids.CallId.{CallId}
use Rattle.locus_ids.specs.declared.ids.EpochId.{EpochId}
use Rattle.locus_ids.specs.declared.ids.FileId.{FileId}
use Rattle.locus_ids.specs.declared.ids.Stamp.{Stamp}
use Rattle.trace_book.specs.Same.{same_call}
use Rattle.trace_book.specs.declared.call.Call.{Call}
use Rattle.trace_book.specs.declared.call.Call.TheVariants as call
use Rattle.call_rules.specs.declared.answer.Answer.{Answer}
use Rattle.tree_model.specs.Epochs.{is_in}
use Rattle.promises.specs.Past.{Past, Site, CallSoFar, Instance, no_site, site_at}
use Rattle.promises.specs.After.{change, is_id, close_answer}
use Rattle.promises.specs.Rows.{may_call, may_accept, may_mend, may_mend_in, waits_at, next_call}
use Rattle.plain_facts.proofs.Tests.{and_first, and_second, not_true}
use Rattle.past_laws.proofs.Names.{false_true, both_parts, number_eq, call_eq}
use Rattle.past_laws.proofs.Changing.{any_finds, Finds, first_found}
use Rattle.past_laws.proofs.CallsLists.{each_more, each_changed, many_changed}
use Rattle.past_laws.proofs.SitesSay.{has_number, is_there_in, same_there, own_site, other_site, part_still, KeepsNumber}
use Rattle.audit_laws.specs.Tidy.Sites.{SitesStand}
use Rattle.audit_laws.specs.Tidy.Calls.{site_of, IsGiven, CallStands, CallsStand}
use Rattle.audit_laws.proofs.Tidy.Sites.{site_stands}

-- ---- sites that are changed in other ways ----

-- what calls ask of their sites is still so
pub record Keeps (old new : List Site) : Type 0 where
  pub there : (n : ℕ) → is_there_in new n ≡ is_there_in old n
  pub up : (n : ℕ) → (site_of new n).up ≡ (site_of old n).up
  pub boot : (n : ℕ) → (site_of new n).boot ≡ (site_of old n).boot
  pub accepted : (n : ℕ) → (site_of old n).accepted ≤ (site_of new n).accepted

pub kept_so : (sites : List Site) → Keeps sites sites
kept_so sites = record { there = λ n. refl; up = λ n. refl; boot = λ n. refl; accepted = λ n. omega arith }

pub site_changed : (n : ℕ) (f : Site → Site) (sites : List Site) → KeepsNumber f → ((s : Site) → (f s).up ≡ s.up) → ((s : Site) → (f s).boot ≡ s.boot) → ((s : Site) → (f s).accepted ≡ s.accepted) → Keeps sites (change (has_number n) f sites)
site_changed n f sites keep up boot accepted = record {
  there = λ m. same_there n m f keep sites;
  up = λ m. part_still (λ (s : Site). s.up) n m f keep up sites;
  boot = λ m. part_still (λ (s : Site). s.boot) n m f keep boot sites;
  accepted = λ m. same (site_of sites m).accepted (site_of (change (has_number n) f sites) m).accepted (part_still (λ (s : Site). s.accepted) n m f keep accepted sites);
}
  where
    same : (a b : ℕ) → b ≡ a → a ≤ b
    same a b e = omega (arith, e)

given_later : (a b : Site) (id : CallId) → b.boot ≡ a.boot → a.accepted ≤ b.accepted → IsGiven a id → IsGiven b id
given_later a b id boot more (inl below) = inl (omega (arith, below, boot))
given_later a b id boot more (inr (same, low)) = inr (same ∙ sym boot, omega (arith, low, more))

-- a call that is changed stands still
pub call_kept : (old new : List Site) (k l : CallSoFar) → Keeps old new → l.id ≡ k.id → (l.waits ≡ true → k.waits ≡ true) → CallStands old k → CallStands new l
call_kept old new k l keeps name waits st = record {
  there = keeps.there l.id.site ∙ (ap (λ (d : CallId). is_there_in old d.site) name ∙ st.there);
  given = subst (λ (d : CallId). IsGiven (site_of new d.site) d) (sym name) (given_later (site_of old k.id.site) (site_of new k.id.site) k.id (keeps.boot k.id.site) (keeps.accepted k.id.site) st.given);
  up = λ h. keeps.up l.id.site ∙ (ap (λ (d : CallId). (site_of old d.site).up) name ∙ st.up (waits h));
  present = λ h. ap (λ (d : CallId). d.boot) name ∙ (st.present (waits h) ∙ (ap (λ (d : CallId). (site_of old d.site).boot) (sym name) ∙ sym (keeps.boot l.id.site)));
}

-- ---- calls that are changed ----

-- fewer pass, where what passes after the change passed before
pub fewer_changed : {X : Type 0} (p q : X → Bool) (f : X → X) → ((x : X) → p (f x) ≡ true → p x ≡ true) → (xs : List X) → length (filter p (change q f xs)) ≤ length (filter p xs)
fewer_changed p q f less [] = omega arith
fewer_changed {X} p q f less (x ∷ xs) = over (p (cond (q x) (f x) x)) (p x) refl refl (fewer_changed p q f less xs)
  where
    was : (b : Bool) → p (cond b (f x) x) ≡ true → p x ≡ true
    was true h = less x h
    was false h = h

    over : (a b : Bool) → p (cond (q x) (f x) x) ≡ a → p x ≡ b → length (filter p (change q f xs)) ≤ length (filter p xs) → length (cond a (cond (q x) (f x) x ∷ filter p (change q f xs)) (filter p (change q f xs))) ≤ length (cond b (x ∷ filter p xs) (filter p xs))
    over true true e g later = omega arith
    over true false e g later = false_true (sym g ∙ was (q x) e)
    over false true e g later = omega arith
    over false false e g later = later

-- a change of what has nothing to do with the name
pub record Leaves (f : CallSoFar → CallSoFar) : Type 0 where
  pub name : (k : CallSoFar) → (f k).id ≡ k.id
  pub process : (k : CallSoFar) → (f k).process ≡ k.process
  pub waits : (k : CallSoFar) → (f k).waits ≡ true → k.waits ≡ true

still_waits : (f : CallSoFar → CallSoFar) → Leaves f → (site process : ℕ) (k : CallSoFar) → waits_at site process (f k) ≡ true → waits_at site process k ≡ true
still_waits f leaves site process k h = (let parts : ((f k).waits ≡ true) × (of (f k).id.site (f k).process ≡ true) = both_parts (f k).waits (of (f k).id.site (f k).process) h in
    let now : k.waits ≡ true = leaves.waits k parts.0 in
    let same : of k.id.site k.process ≡ true = ap (λ (d : CallId). of d.site k.process) (sym (leaves.name k)) ∙ (ap (λ m. of (f k).id.site m) (sym (leaves.process k)) ∙ parts.1) in
    ap (λ b. b && of k.id.site k.process) now ∙ same)
  where
    of : ℕ → ℕ → Bool
    of s q = (s == site) && (q == process)

pub calls_moved : (old new : List Site) (calls : List CallSoFar) (which : CallSoFar → Bool) (f : CallSoFar → CallSoFar) → Leaves f → ((k : CallSoFar) → which k ≡ true → CallStands old k → CallStands new (f k)) → ((k : CallSoFar) → which k ≡ false → CallStands old k → CallStands new k)
    → CallsStand old calls → CallsStand new (change which f calls)
calls_moved old new calls which f leaves moved others st = record {
  once = λ id. omega (arith, st.once id, many_changed (is_id id) which f (λ k. ap (λ (d : CallId). same_call d id) (leaves.name k)) calls);
  each = each_changed (CallStands old) (CallStands new) which f moved others calls st.each;
  alone = λ site process above. omega (arith, st.alone site process above, fewer_changed (waits_at site process) which f (still_waits f leaves site process) calls);
}

pub calls_changed : (old new : List Site) (calls : List CallSoFar) (which : CallSoFar → Bool) (f : CallSoFar → CallSoFar) → Keeps old new → Leaves f → CallsStand old calls → CallsStand new (change which f calls)
calls_changed old new calls which f keeps leaves st = calls_moved old new calls which f leaves (λ k h. call_kept old new k (f k) keeps (leaves.name k) (leaves.waits k)) (λ k h. call_kept old new k k keeps refl (λ w. w)) st

pub calls_kept : (old new : List Site) (calls : List CallSoFar) → ((k : CallSoFar) → CallStands old k → CallStands new k) → CallsStand old calls → CallsStand new calls
calls_kept old new calls kept st = record { once = st.once; each = each_more (CallStands old) (CallStands new) kept calls st.each; alone = st.alone }

pub calls_same : (old new : List Site) (calls : List CallSoFar) → Keeps old new → CallsStand old calls → CallsStand new calls
calls_same old new calls keeps st = calls_kept old new calls (λ k. call_kept old new k k keeps refl (λ w. w)) st

-- answers alone
pub leaves_answers : (g : CallSoFar → List Answer) → Leaves (λ (k : CallSoFar). record k { answers = g k })
leaves_answers g = record { name = λ k. refl; process = λ k. refl; waits = λ k h. h }

pub closed_calls : (sites : List Site) (which : CallSoFar → Bool) (stamp : Option Stamp) (xs : List Instance) (calls : List CallSoFar) → CallsStand sites calls
    → CallsStand sites (fold (λ (ks : List CallSoFar) (x : Instance). change which (λ (k : CallSoFar). record k { answers = k.answers ++ close_answer stamp x ∷ [] }) ks) calls xs)
closed_calls sites which stamp [] calls st = st
closed_calls sites which stamp (x ∷ xs) calls st = closed_calls sites which stamp xs (change which (λ (k : CallSoFar). record k { answers = k.answers ++ close_answer stamp x ∷ [] }) calls)
    (calls_changed sites sites calls which (λ (k : CallSoFar). record k { answers = k.answers ++ close_answer stamp x ∷ [] }) (kept_so sites) (leaves_answers (λ k. k.answers ++ close_answer stamp x ∷ [])) st)

-- ---- a boot and a stop ----

abbrev booted : ℕ → Site → Site
booted boot s = record s { up = true; boot = boot; joined = None; accepted = 0 }

pub boot_call : (sites : List Site) (site boot : ℕ) → (site_of sites site).up ≡ false → (site_of sites site).boot < boot → (k : CallSoFar) → CallStands sites k → CallStands (change (has_number site) (booted boot) sites) k
boot_call sites site boot down above k st = at (site == k.id.site) refl
  where
    new : List Site
    new = change (has_number site) (booted boot) sites

    there : is_there_in new k.id.site ≡ true
    there = same_there site k.id.site (booted boot) (λ s. refl) sites ∙ st.there

    at : (b : Bool) → (site == k.id.site) ≡ b → CallStands new k
    at true e = (let same : site ≡ k.id.site = number_eq site k.id.site e in
        let now : site_of new k.id.site ≡ booted boot (site_of sites k.id.site) = subst (λ n. site_of (change (has_number n) (booted boot) sites) k.id.site ≡ booted boot (site_of sites k.id.site)) (sym same) (own_site k.id.site (booted boot) (λ s. refl) sites st.there) in
        let off : k.waits ≡ true → false ≡ true = λ w. sym down ∙ (ap (λ n. (site_of sites n).up) same ∙ st.up w) in
        record {
          there = there;
          given = subst (λ (s : Site). IsGiven s k.id) (sym now) (inl (below (site_of sites k.id.site) (subst (λ n. (site_of sites n).boot < boot) same above) st.given));
          up = λ w. false_true (off w);
          present = λ w. false_true (off w);
        })
      where
        below : (s : Site) → s.boot < boot → IsGiven s k.id → k.id.boot < boot
        below s h (inl l) = omega (arith, h, l)
        below s h (inr (e, l)) = omega (arith, h, e)
    at false e = (let now : site_of new k.id.site ≡ site_of sites k.id.site = other_site site k.id.site (booted boot) (λ s. refl) sites e in
        record {
          there = there;
          given = subst (λ (s : Site). IsGiven s k.id) (sym now) st.given;
          up = λ w. ap (λ (s : Site). s.up) now ∙ st.up w;
          present = λ w. st.present w ∙ ap (λ (s : Site). s.boot) (sym now);
        })

abbrev halted : Site → Site
halted s = record s { epoch = None; up = false; descriptors = [] }

-- a call of the stopped site doesn't wait, and the other sites are as they were
pub stopped_call : (sites : List Site) (site : ℕ) (k l : CallSoFar) → l.id ≡ k.id → ((k.id.site == site) ≡ true → l.waits ≡ false) → (l.waits ≡ true → k.waits ≡ true) → CallStands sites k → CallStands (change (has_number site) halted sites) l
stopped_call sites site k l name off waits st = record {
  there = same_there site l.id.site halted (λ s. refl) sites ∙ (ap (λ (d : CallId). is_there_in sites d.site) name ∙ st.there);
  given = subst (λ (d : CallId). IsGiven (site_of new d.site) d) (sym name) (given_later (site_of sites k.id.site) (site_of new k.id.site) k.id (part_still (λ (s : Site). s.boot) site k.id.site halted (λ s. refl) (λ s. refl) sites) (same (part_still (λ (s : Site). s.accepted) site k.id.site halted (λ s. refl) (λ s. refl) sites)) st.given);
  up = λ w. ap (λ (s : Site). s.up) (now w) ∙ st.up (waits w);
  present = λ w. ap (λ (d : CallId). d.boot) name ∙ (st.present (waits w) ∙ ap (λ (s : Site). s.boot) (sym (now w)));
}
  where
    new : List Site
    new = change (has_number site) halted sites

    same : {a b : ℕ} → b ≡ a → a ≤ b
    same e = omega (arith, e)

    apart : l.waits ≡ true → (site == k.id.site) ≡ false
    apart w = at (site == k.id.site) refl
      where
        at : (b : Bool) → (site == k.id.site) ≡ b → b ≡ false
        at true e = false_true (sym (off (turned e)) ∙ w)
          where
            turned : (site == k.id.site) ≡ true → (k.id.site == site) ≡ true
            turned t = grind (arith, nat_tests)
        at false e = refl

    now : (w : l.waits ≡ true) → site_of new l.id.site ≡ site_of sites k.id.site
    now w = ap (λ (d : CallId). site_of new d.site) name ∙ other_site site k.id.site halted (λ s. refl) sites (apart w)

-- ---- a call is accepted ----

-- a site that runs is there
pub up_there : (sites : List Site) (n : ℕ) → (site_of sites n).up ≡ true → is_there_in sites n ≡ true
up_there [] n h = false_true h
up_there (s ∷ sites) n h = at (s.number == n) (up_there sites n) h
  where
    at : (b : Bool) → ((site_of sites n).up ≡ true → is_there_in sites n ≡ true) → (cond b s (site_of sites n)).up ≡ true → (b || is_there_in sites n) ≡ true
    at true later k = refl
    at false later k = later k

pub number_of : (sites : List Site) (n : ℕ) → is_there_in sites n ≡ true → (site_of sites n).number ≡ n
number_of sites n h = of (any_finds (has_number n) sites h)
  where
    of : Finds (has_number n) sites → (site_of sites n).number ≡ n
    of it = ap (λ (s : Site). s.number) (first_found no_site (has_number n) sites it.one it.found) ∙ number_eq it.one.number n it.passes

-- what is known of the call that is accepted
pub record Accepts (c : Config) (p : Past) (site process : ℕ) (id : CallId) : Type 0 where
  pub up : (site_at p site).up ≡ true
  pub there : is_there_in p.sites site ≡ true
  pub site_is : id.site ≡ site
  pub boot_is : id.boot ≡ (site_at p site).boot
  pub n_is : id.n ≡ (site_at p site).accepted + 1
  pub free : (process ≡ 0 → ⊥) → list_any (waits_at site process) p.calls ≡ false

inside_up : (c : Config) (p : Past) (site : ℕ) (e : EpochId) → SitesStand c p.sites → is_in (site_at p site).epoch e ≡ true → (site_at p site).up ≡ true
inside_up c p site e sites h = at (site_at p site).up refl
  where
    none_in : (o : Option EpochId) → o ≡ None → is_in o e ≡ false
    none_in o q = ap (λ (x : Option EpochId). is_in x e) q

    at : (b : Bool) → (site_at p site).up ≡ b → b ≡ true
    at true q = refl
    at false q = sym (none_in (site_at p site).epoch ((site_stands c p.sites sites site).outside q)) ∙ h

accepts_named : (c : Config) (p : Past) (site process : ℕ) (id : CallId) → (site_at p site).up ≡ true → same_call id (next_call (site_at p site)) ≡ true → ((process ≡ 0 → ⊥) → list_any (waits_at site process) p.calls ≡ false) → Accepts c p site process id
accepts_named c p site process id up named free = (let is : id ≡ next_call (site_at p site) = call_eq id (next_call (site_at p site)) named in
    let there : is_there_in p.sites site ≡ true = up_there p.sites site up in record {
      up = up;
      there = there;
      site_is = ap (λ (d : CallId). d.site) is ∙ number_of p.sites site there;
      boot_is = ap (λ (d : CallId). d.boot) is;
      n_is = ap (λ (d : CallId). d.n) is;
      free = free;
    })

accepts_call : (c : Config) (p : Past) (site process : ℕ) (id : CallId) → may_accept p site process id ≡ true → Accepts c p site process id
accepts_call c p site process id may = (let parts : ((site_at p site).up ≡ true) × ((not (list_any (waits_at site process) p.calls) && same_call id (next_call (site_at p site))) ≡ true) = both_parts (site_at p site).up (not (list_any (waits_at site process) p.calls) && same_call id (next_call (site_at p site))) may in
    let more : (not (list_any (waits_at site process) p.calls) ≡ true) × (same_call id (next_call (site_at p site)) ≡ true) = both_parts (not (list_any (waits_at site process) p.calls)) (same_call id (next_call (site_at p site))) parts.1 in
    accepts_named c p site process id parts.0 more.1 (λ above. not_true (list_any (waits_at site process) p.calls) more.0))

accepts_mend : (c : Config) (p : Past) (site process : ℕ) (id : CallId) (f : FileId) → SitesStand c p.sites → may_mend c p site process id f ≡ true → Accepts c p site process id
accepts_mend c p site process id f sites may = (let zero : (process == 0) ≡ true = and_first (process == 0) _ may in
    let more : (list_any (may_mend_in c p site f) p.epochs && _) ≡ true = and_second _ (list_any (may_mend_in c p site f) p.epochs && _) (and_second (process == 0) _ may) in
    let some : list_any (may_mend_in c p site f) p.epochs ≡ true = and_first (list_any (may_mend_in c p site f) p.epochs) _ more in
    let named : same_call id (next_call (site_at p site)) ≡ true = and_second _ (same_call id (next_call (site_at p site))) (and_second (list_any (may_mend_in c p site f) p.epochs) _ more) in
    accepts_named c p site process id (of (any_finds (may_mend_in c p site f) p.epochs some)) named (λ above. absurd (above (number_eq process 0 zero))))
  where
    of : Finds (may_mend_in c p site f) p.epochs → (site_at p site).up ≡ true
    of it = inside_up c p site it.one.id sites (and_first (is_in (site_at p site).epoch it.one.id) _ it.passes)

pub accepts : (c : Config) (p : Past) (site process : ℕ) (id : CallId) (words : Call) → SitesStand c p.sites → may_call c p site process id words ≡ true → Accepts c p site process id
accepts c p site process id (call.Mend f) sites may = accepts_mend c p site process id f sites may
accepts c p site process id (call.Open path how) sites may = accepts_call c p site process id may
accepts c p site process id (call.Read fd at len) sites may = accepts_call c p site process id may
accepts c p site process id (call.Write fd at bytes) sites may = accepts_call c p site process id may
accepts c p site process id (call.Cut fd len) sites may = accepts_call c p site process id may
accepts c p site process id (call.Commit fd) sites may = accepts_call c p site process id may
accepts c p site process id (call.Abort fd) sites may = accepts_call c p site process id may
accepts c p site process id (call.Close fd) sites may = accepts_call c p site process id may
accepts c p site process id (call.Create path sites_for) sites may = accepts_call c p site process id may
accepts c p site process id (call.MakeDir path) sites may = accepts_call c p site process id may
accepts c p site process id (call.Unlink path) sites may = accepts_call c p site process id may
accepts c p site process id (call.RemoveDir path) sites may = accepts_call c p site process id may
accepts c p site process id (call.Rename path name) sites may = accepts_call c p site process id may
accepts c p site process id (call.List path) sites may = accepts_call c p site process id may
accepts c p site process id (call.Stat path) sites may = accepts_call c p site process id may
accepts c p site process id (call.Mail path bytes) sites may = accepts_call c p site process id may
accepts c p site process id (call.Mails path) sites may = accepts_call c p site process id may
