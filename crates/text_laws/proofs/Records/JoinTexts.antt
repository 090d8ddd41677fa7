-- What a site joins is a text, where the list has a boot number for the site.
use Rattle.std.proofs.Common.{◌≡◌, ◌≤◌, ◌<◌, ℕ, zero, suc, ◌==◌, ◌&&◌, Bool, true, false, cond, List, [], ◌∷◌, ◌++◌, length, get_or, refl, subst, arith, ⊎_elim}
use Rattle.std.proofs.lemmas.Bool.{cases_lt}
use Rattle.std.proofs.lemmas.Bool.Decides.{nat_tests}
use Rattle.std.specs.List.{list_all}
use Rattle.std.specs.Prelude.{nat_lt}
use Rattle.plain_facts.proofs.Tests.{and_true}
use Rattle.plain_facts.proofs.Numbers.{equal_test}
use Rattle.locus_ids.specs.Sizes.{sites_max}
use Rattle.locus_ids.specs.declared.ids.EpochId.{EpochId}
use Rattle.locus_ids.specs.declared.ids.Member.{Member}
use Rattle.locus_ids.specs.declared.sites.Members.{Members}
use Rattle.trace_book.specs.Text.{members_to}
use Rattle.trace_book.specs.declared.record.Record.TheVariants as says
use Rattle.tree_model.specs.Packs.{boot_in}
use Rattle.schedule_lines.specs.Ranges.{is_between}
use Rattle.record_reading.specs.Ranges.{is_any_site, is_epoch, is_members, number_max}
use Rattle.text_laws.specs.Records.Texts.{JoinFits}
use Rattle.text_laws.proofs.Records.ByKind.{counted, epoch_text}

site_text : (n : ℕ) → 1 ≤ n → n ≤ sites_max → is_any_site n ≡ true
site_text n low high = grind (arith, nat_tests)

low_boots : (bs : List ℕ) → ((k : ℕ) → get_or bs k 0 ≤ 134217730) → list_all (is_between 0 number_max) bs ≡ true
low_boots [] h = refl
low_boots (b ∷ bs) h = and_true (is_between 0 number_max b) (list_all (is_between 0 number_max) bs) (one b (h 0)) (low_boots bs (λ k. h (suc k)))
  where
    one : (n : ℕ) → n ≤ 134217730 → is_between 0 number_max n ≡ true
    one n le = grind (arith, nat_tests)

more_members : (xs ys : List Member) → nat_lt 0 (length xs) ≡ true → nat_lt 0 (length (xs ++ ys)) ≡ true
more_members [] ys h = absurd (cc)
more_members (x ∷ xs) ys h = more (length (xs ++ ys))
  where
    more : (n : ℕ) → nat_lt 0 (suc n) ≡ true
    more n = grind (arith, nat_tests)

last_members : (xs : List Member) (y : Member) → nat_lt 0 (length (xs ++ y ∷ [])) ≡ true
last_members [] y = refl
last_members (x ∷ xs) y = more (length (xs ++ y ∷ []))
  where
    more : (n : ℕ) → nat_lt 0 (suc n) ≡ true
    more n = grind (arith, nat_tests)

-- a site below that has a boot number is listed
some_member : (bs : List ℕ) (n place : ℕ) → place < n → (get_or bs place 0 == 0) ≡ false → nat_lt 0 (length (members_to bs n)) ≡ true
some_member bs zero place low h = absurd (omega (arith, low))
some_member bs (suc n) place low h = ⊎_elim (λ (l : place < n). more_members (members_to bs n) _ (some_member bs n place l h)) (λ (g : n ≤ place). here (same g)) (cases_lt place n)
  where
    same : n ≤ place → place ≡ n
    same g = omega (arith, low, g)

    here : place ≡ n → nat_lt 0 (length (members_to bs (suc n))) ≡ true
    here e = over (get_or bs n 0 == 0) (subst (λ (k : ℕ). (get_or bs k 0 == 0) ≡ false) e h)
      where
        over : (b : Bool) → b ≡ false → nat_lt 0 (length (members_to bs n ++ cond b [] (record { site = suc n; boot = get_or bs n 0 } ∷ []))) ≡ true
        over true f = absurd (cc)
        over false f = last_members (members_to bs n) (record { site = suc n; boot = get_or bs n 0 })

-- the site has a boot number in the list
listed : (m : Members) (site : ℕ) → site ≤ sites_max → 1 ≤ boot_in m site → nat_lt 0 (length (members_to m.boot sites_max)) ≡ true
listed m zero high some = absurd (omega (arith, some))
listed m (suc place) high some = some_member m.boot sites_max place (omega (arith, high)) (apart (get_or m.boot place 0) some)
  where
    apart : (n : ℕ) → 1 ≤ n → (n == 0) ≡ false
    apart n k = grind (arith, nat_tests)

pub join_text : (site : ℕ) (e : EpochId) (m : Members) → site ≤ sites_max → 1 ≤ boot_in m site → JoinFits (says.Join site e m) → (is_epoch e && is_members m) ≡ true
join_text site e m high some fits = and_true (is_epoch e) (is_members m)
    (epoch_text e (counted e.number fits.0.0.0 (more e.number 134479873 fits.0.0.1 (omega arith))) (site_text e.site fits.0.1.0.0 fits.0.1.0.1) (counted e.boot fits.0.1.1.0 (more e.boot 134217730 fits.0.1.1.1 (omega arith))))
    (and_true (length m.boot == sites_max && list_all (is_between 0 number_max) m.boot) (nat_lt 0 (length (members_to m.boot sites_max)))
    (and_true (length m.boot == sites_max) (list_all (is_between 0 number_max) m.boot) (equal_test (length m.boot) sites_max fits.1.0) (low_boots m.boot (λ k. fits.1.1 (suc k))))
    (listed m site high some))
  where
    more : (n most : ℕ) → n ≤ most → most ≤ 4294967295 → n ≤ 4294967295
    more n most a b = omega (arith, a, b)
