-- Sites stand by each record that may follow.
use Rattle.std.proofs.Common.{◌≡◌, ℕ, ◌+◌, ◌==◌, ◌&&◌, ◌≤◌, not, nat_lt, Bool, true, false, cond, List, [], ◌∷◌, ◌++◌, length, filter, map, Some, None, refl, sym, ap, subst, ◌∙◌, arith}
use Rattle.std.proofs.lemmas.Bool.Decides.{nat_tests}
use Rattle.std.specs.List.{AllByRecursion}
use Rattle.locus_ids.specs.declared.config.Config.{Config}
use Rattle.locus_ids.specs.declared.sites.Members.{Members}
use Rattle.locus_ids.specs.declared.ids.FileId.{FileId}
use Rattle.locus_ids.specs.declared.ids.EpochId.{EpochId}
use Rattle.locus_ids.specs.declared.ids.Stamp.{Stamp}
use Rattle.commit_graph.specs.Versions.{same_file}
use Rattle.commit_graph.specs.Vectors.{numbers_from}
use Rattle.call_rules.specs.Walks.{root_of}
use Rattle.trace_book.specs.declared.record.Record.{Record}
use Rattle.trace_book.specs.declared.record.Record.TheVariants as rec
use Rattle.tree_model.specs.Histories.{format_stamp}
use Rattle.tree_model.specs.Packs.{has_pack}
use Rattle.promises.specs.Past.{Past, Site, Copy, Named, first_site, groups, no_site, nothing_yet, site_at, epoch_at, is_named}
use Rattle.promises.specs.After.{after, told_by, change, taken_by, is_freed, is_ender, held_again}
use Rattle.promises.specs.Rows.{may_follow, may_boot, may_join, is_there}
use Rattle.plain_facts.proofs.Tests.{and_first}
use Rattle.past_laws.proofs.Names.{false_true, none_some, both_parts, file_eq, file_test}
use Rattle.past_laws.proofs.Finding.{filter_mapped}
use Rattle.past_laws.proofs.Changing.{filter_filtered_out}
use Rattle.past_laws.proofs.CallsLists.{each_both, each_changed, many_left}
use Rattle.past_laws.proofs.TreesLists.{length_map, filter_less, fewer_pass}
use Rattle.past_laws.proofs.TreesBegin.{one_number}
use Rattle.past_laws.proofs.SitesSay.{has_number, numbers_still, change_twice, KeepsNumber}
use Rattle.audit_laws.specs.Tidy.Sites.{HasEachOnce, SiteStands, SitesStand}
use Rattle.audit_laws.specs.Tidy.Calls.{site_of}
use Rattle.audit_laws.specs.Tidy.Tidy.{IsTidy}
use Rattle.audit_laws.proofs.Tidy.Lists.{each_first, first_one}
use Rattle.audit_laws.proofs.Tidy.Answers.{AnswersOne, answers_one, closed_as, epoch_sites}

-- ---- a site by its number ----

-- of each number there is one
pub one_site : (c : Config) (sites : List Site) → map (λ (s : Site). s.number) sites ≡ numbers_from 1 c.sites → (n : ℕ) → length (filter (has_number n) sites) ≤ 1
one_site c sites e n = omega (arith, ap length (filter_mapped (λ (s : Site). s.number) (λ m. m == n) sites), length_map (λ (s : Site). s.number) (filter (has_number n) sites), ap (λ ms. length (filter (λ m. m == n) ms)) e, one_number n 1 c.sites)

-- so that the site of a number is it
pub sites_are : (c : Config) (sites : List Site) → SitesStand c sites → (n : ℕ) → AllByRecursion (λ (s : Site). has_number n s ≡ true → site_of sites n ≡ s) sites
sites_are c sites stand n = first_one no_site (has_number n) sites (one_site c sites stand.numbers n)

no_site_stands : SiteStands no_site
no_site_stands = record { held = λ f. omega arith; outside = λ h. refl; shut = λ h. refl; joined = λ e h. none_some e h }

pub site_stands : (c : Config) (sites : List Site) → SitesStand c sites → (n : ℕ) → SiteStands (site_of sites n)
site_stands c sites stand n = each_first SiteStands no_site (has_number n) sites no_site_stands stand.each

-- where the site of a number is changed, that is so, and becomes a site that stands
pub sites_changed : (c : Config) (sites : List Site) (n : ℕ) (f : Site → Site) → SitesStand c sites → KeepsNumber f → ((s : Site) → site_of sites n ≡ s → SiteStands s → SiteStands (f s)) → SitesStand c (change (has_number n) f sites)
sites_changed c sites n f stand keep again = record {
  numbers = numbers_still n f keep sites ∙ stand.numbers;
  each = each_changed (λ (s : Site). (has_number n s ≡ true → site_of sites n ≡ s) × SiteStands s) SiteStands (has_number n) f (λ s e h. again s (h.0 e) h.1) (λ s e h. h.1) sites
      (each_both (λ (s : Site). has_number n s ≡ true → site_of sites n ≡ s) SiteStands (λ (s : Site). (has_number n s ≡ true → site_of sites n ≡ s) × SiteStands s) (λ s a b. (a, b)) sites (sites_are c sites stand n) stand.each);
}

-- ---- each change ----

-- a file's version takes the place of the old one
pub held_now : (file : FileId) (stamp : Stamp) (vs : List Copy) → HasEachOnce vs → HasEachOnce (record { file = file; stamp = stamp } ∷ filter (λ (v : Copy). not (same_file v.file file)) vs)
held_now file stamp vs once f = at (same_file file f) refl
  where
    new : Copy
    new = record { file = file; stamp = stamp }

    others : List Copy
    others = filter (λ (v : Copy). not (same_file v.file file)) vs

    out : same_file file f ≡ true → (v : Copy) → same_file v.file f ≡ true → not (same_file v.file file) ≡ false
    out e v h = ap not (file_test v.file file (file_eq v.file f h ∙ sym (file_eq file f e)))

    short : (xs : List Copy) → xs ≡ [] → length (new ∷ xs) ≤ 1
    short xs e = rw e (omega arith)

    at : (b : Bool) → same_file file f ≡ b → length (cond b (new ∷ filter (λ (v : Copy). same_file v.file f) others) (filter (λ (v : Copy). same_file v.file f) others)) ≤ 1
    at true e = short (filter (λ (v : Copy). same_file v.file f) others) (filter_filtered_out (λ (v : Copy). same_file v.file f) (λ (v : Copy). not (same_file v.file file)) (out e) vs)
    at false e = omega (arith, many_left (λ (v : Copy). same_file v.file f) (λ (v : Copy). not (same_file v.file file)) vs, once f)

takes : (file : FileId) (stamp : Stamp) (s : Site) → SiteStands s → SiteStands (record s { held = record { file = file; stamp = stamp } ∷ filter (λ (v : Copy). not (same_file v.file file)) s.held })
takes file stamp s k = record { held = held_now file stamp s.held k.held; outside = k.outside; shut = k.shut; joined = k.joined }

boots : (boot : ℕ) (s : Site) → s.up ≡ false → SiteStands s → SiteStands (record s { up = true; boot = boot; joined = None; accepted = 0 })
boots boot s down k = record { held = k.held; outside = λ h. refl_of h; shut = λ h. shut_of h; joined = λ e h. none_some e (sym (k.outside down) ∙ h) }
  where
    refl_of : true ≡ false → s.epoch ≡ None
    refl_of h = k.outside down

    shut_of : true ≡ false → s.descriptors ≡ []
    shut_of h = k.shut down

leaves : (s : Site) → SiteStands s → SiteStands (record s { epoch = None })
leaves s k = record { held = k.held; outside = λ h. refl; shut = k.shut; joined = λ e h. none_some e h }

halts : (s : Site) → SiteStands s → SiteStands (record s { epoch = None; up = false; descriptors = [] })
halts s k = record { held = k.held; outside = λ h. refl; shut = λ h. refl; joined = λ e h. none_some e h }

joins : (e : EpochId) (s : Site) → s.up ≡ true → SiteStands s → SiteStands (record s { epoch = Some e; joined = Some e })
joins e s up k = record { held = k.held; outside = λ h. false_true (sym h ∙ up); shut = k.shut; joined = λ d h. h }

accepts : (n : ℕ) (q : Named → Bool) (s : Site) → SiteStands s → SiteStands (record s { accepted = n; descriptors = filter q s.descriptors })
accepts n q s k = record { held = k.held; outside = k.outside; shut = λ h. ap (filter q) (k.shut h); joined = k.joined }

opens : (ds : List Named) (s : Site) → s.up ≡ true → SiteStands s → SiteStands (record s { descriptors = ds })
opens ds s up k = record { held = k.held; outside = k.outside; shut = λ h. false_true (sym h ∙ up); joined = k.joined }

-- ---- each record ----

pub boot_is_new : (p : Past) (site boot : ℕ) → may_boot p site boot ≡ true → (site_at p site).up ≡ false
boot_is_new p site boot may = not_up (site_at p site).up (both_parts (not (site_at p site).up) (nat_lt (site_at p site).boot boot) (both_parts (is_there p site) (not (site_at p site).up && nat_lt (site_at p site).boot boot) may).1).0
  where
    not_up : (b : Bool) → not b ≡ true → b ≡ false
    not_up true h = false_true h
    not_up false h = refl

join_is_up : (p : Past) (site : ℕ) (e : EpochId) (members : Members) → may_join p site e members ≡ true → (site_at p site).up ≡ true
join_is_up p site e members may = and_first (site_at p site).up _ may

pub sites_next : (c : Config) (p : Past) (r : Record) → IsTidy c p → may_follow c p r ≡ true → SitesStand c (after c r p).sites
sites_next c p (rec.Up site boot) tidy may = sites_changed c p.sites site (λ s. record s { up = true; boot = boot; joined = None; accepted = 0 }) tidy.sites (λ s. refl) (λ s e k. boots boot s (ap (λ (x : Site). x.up) (sym e) ∙ boot_is_new p site boot may) k)
sites_next c p (rec.Stopped site cause) tidy may = subst (SitesStand c) (sym (change_twice site (λ s. record s { epoch = None }) (λ s. record s { up = false; descriptors = [] }) (λ s. refl) p.sites)) (sites_changed c p.sites site (λ s. record s { epoch = None; up = false; descriptors = [] }) tidy.sites (λ s. refl) (λ s e k. halts s k))
sites_next c p (rec.Leave site e) tidy may = sites_changed c p.sites site (λ s. record s { epoch = None }) tidy.sites (λ s. refl) (λ s h k. leaves s k)
sites_next c p (rec.Join site e members) tidy may = subst (λ ss. SitesStand c (change (has_number site) (λ s. record s { epoch = Some e; joined = Some e }) ss)) (sym (epoch_sites e members p)) (sites_changed c p.sites site (λ s. record s { epoch = Some e; joined = Some e }) tidy.sites (λ s. refl) (λ s h k. joins e s (ap (λ (x : Site). x.up) (sym h) ∙ join_is_up p site e members may) k))
sites_next c p (rec.Start e group copies) tidy may = tidy.sites
sites_next c p (rec.Accept site process id words) tidy may = sites_changed c p.sites site (λ s. record s { accepted = s.accepted + 1; descriptors = filter (λ d. not (is_freed words process d)) s.descriptors }) tidy.sites (λ s. refl) (λ s h k. accepts (s.accepted + 1) (λ d. not (is_freed words process d)) s k)
sites_next c p (rec.Look e id request f w result) tidy may = tidy.sites
sites_next c p (rec.Grant e id request i m f stamp ss) tidy may = tidy.sites
sites_next c p (rec.Refuse e id request i m f why) tidy may = tidy.sites
sites_next c p (rec.Act e i n o result) tidy may = tidy.sites
sites_next c p (rec.Commit f site stamp parents content) tidy may = sites_changed c p.sites site (λ s. record s { held = record { file = f; stamp = stamp } ∷ filter (λ (v : Copy). not (same_file v.file f)) s.held }) tidy.sites (λ s. refl) (λ s h k. takes f stamp s k)
sites_next c p (rec.Release e i f stamp) tidy may = subst (SitesStand c) (sym (ap (λ (q : Past). q.sites) (closed_as (is_ender (epoch_at p e) i) stamp p (filter (is_named i) (epoch_at p e).opened)))) tidy.sites
sites_next c p (rec.Adopt f site stamp) tidy may = sites_changed c p.sites site (λ s. record s { held = record { file = f; stamp = stamp } ∷ filter (λ (v : Copy). not (same_file v.file f)) s.held }) tidy.sites (λ s. refl) (λ s h k. takes f stamp s k)
sites_next c p (rec.Answer site process id r) tidy may = of (answers_one c p site process id r tidy.calls may)
  where
    of : AnswersOne c p site process id r → SitesStand c (told_by c (rec.Answer site process id r) p).sites
    of it = subst (λ (q : Past). SitesStand c q.sites) (sym it.told) (sites_changed c p.sites it.call.id.site (λ s. record s { descriptors = taken_by r it.call ++ held_again r it.call s.descriptors }) tidy.sites (λ s. refl)
        (λ s h k. opens (taken_by r it.call ++ held_again r it.call s.descriptors) s (ap (λ (x : Site). x.up) (sym h) ∙ it.stands.up it.waits) k))
sites_next c p (rec.Packet number from to kind) tidy may = tidy.sites
sites_next c p rec.Void tidy may = tidy.sites
sites_next c p rec.Budget tidy may = tidy.sites

-- ---- before the first record ----

one_root : (c : Config) (n : ℕ) → HasEachOnce (first_site c n).held
one_root c n f = omega (arith, ap length (filter_mapped root_copy (λ (v : Copy). same_file v.file f) (filter packed groups)), length_map root_copy (filter of (filter packed groups)), filter_less of packed groups, fewer_pass of (λ g. g == f.group) weaker groups, one_number f.group 0 4)
  where
    root_copy : ℕ → Copy
    root_copy group = record { file = root_of group; stamp = format_stamp }

    packed : ℕ → Bool
    packed group = has_pack c group n

    of : ℕ → Bool
    of group = same_file (root_of group) f

    weaker : (g : ℕ) → of g ≡ true → (g == f.group) ≡ true
    weaker g e = grind (arith, nat_tests)

pub sites_first : (c : Config) → SitesStand c (nothing_yet c).sites
sites_first c = record { numbers = named (numbers_from 1 c.sites); each = all (numbers_from 1 c.sites) }
  where
    named : (ns : List ℕ) → map (λ (s : Site). s.number) (map (first_site c) ns) ≡ ns
    named [] = refl
    named (n ∷ ns) = ap (λ ms. n ∷ ms) (named ns)

    all : (ns : List ℕ) → AllByRecursion SiteStands (map (first_site c) ns)
    all [] = tt
    all (n ∷ ns) = (record { held = one_root c n; outside = λ h. refl; shut = λ h. refl; joined = λ e h. none_some e h }, all ns)
