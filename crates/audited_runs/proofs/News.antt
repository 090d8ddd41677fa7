-- What is new in a record of a run is in range.
use Rattle.std.proofs.Common.{◌≡◌, ◌≤◌, ◌<◌, ◌^◌, ℕ, ◌==◌, Bool, true, false, cond, ◌&&◌, min, ◌∷◌, length, Option, None, Some, refl, sym, ap, subst, ◌∙◌, arith}
use Rattle.std.proofs.lemmas.Bool.Decides.{nat_tests}
use Rattle.std.proofs.Math.Pow.{pow_mono}
use Rattle.std.specs.Prelude.{nat_lt}
use Rattle.plain_facts.proofs.Numbers.{equal_self, less, less_test}
use Rattle.plain_facts.proofs.Tests.{and_second, and_true, both_true}
use Rattle.locus_ids.specs.Sizes.{sites_max}
use Rattle.locus_ids.specs.declared.config.Config.{Config}
use Rattle.locus_ids.specs.declared.ids.CallId.{CallId}
use Rattle.locus_ids.specs.declared.ids.EpochId.{EpochId}
use Rattle.locus_ids.specs.declared.ids.Serial.{Serial}
use Rattle.locus_ids.specs.declared.sites.Members.{Members}
use Rattle.locus_ids.specs.declared.sites.Sites.{Sites}
use Rattle.trace_book.specs.declared.call.Call.{Call}
use Rattle.trace_book.specs.declared.call.Call.TheVariants as call
use Rattle.trace_book.specs.declared.call.OpenMode.{OpenMode}
use Rattle.trace_book.specs.declared.call.OpenMode.TheVariants as how
use Rattle.trace_book.specs.declared.entry.Entry.{Entry}
use Rattle.trace_book.specs.declared.record.Record.{Record}
use Rattle.trace_book.specs.declared.record.Record.TheVariants as rec
use Rattle.schedule_lines.specs.Ranges.{fits_call, fits_copies, fits_mode, is_between, is_site, is_some_sites, is_word}
use Rattle.tree_model.specs.Epochs.{boot_of}
use Rattle.tree_model.specs.Folds.{Trace}
use Rattle.promises.specs.Past.{site_at}
use Rattle.promises.specs.Rows.{is_there, may_follow}
use Rattle.past_laws.specs.Agreement.{past}
use Rattle.row_laws.specs.Rows.{MemberRecord}
use Rattle.headline_laws.specs.Prompting.Speaks.{IsCaller, IsOfProcess, IsSite, RecordSpeaks}
use Rattle.record_reading.specs.Ranges.{is_any_site, is_call_id, is_counted, is_epoch, is_instance, is_members, is_mend, is_process, is_request, is_words}
use Rattle.text_laws.specs.Records.Texts.{BootsAreLow, CountsRecord, JoinFits}
use Rattle.text_laws.proofs.Records.ByKind.{any_site, call_text, counted}
use Rattle.text_laws.proofs.Records.JoinTexts.{join_text}
use Rattle.text_laws.specs.VersionTexts.Texts.{CommitFits}
use Rattle.text_laws.specs.TreeTexts.NewTexts.{is_new_call, is_new_text}
use Rattle.text_laws.specs.NewTexts.Keeping.{AsksLow}
use Rattle.text_laws.proofs.NewTexts.Operations.{act_counted}
use Rattle.packet_laws.specs.Reaching.Reach.{IsListed, IsSerial, ReachedRecord}

-- what is known of a record of a run and of those before it
pub record Known (c : Config) (before : Trace) (r : Entry) : Type 0 where
  pub may : may_follow c (past c before) r.what ≡ true
  pub speaks : RecordSpeaks c before r.what
  pub boots : (site : ℕ) → IsSite c site → BootsAreLow site before r
  pub few : length before ≤ 134217728
  pub calls : CountsRecord r.what
  pub versions : CommitFits r.what
  pub joins : JoinFits r.what
  pub members : MemberRecord before r.what
  pub begun : (site : ℕ) → 1 ≤ boot_of before site
  pub reached : ReachedRecord r.what
  pub asks : AsksLow r.what

-- ---- boots ----

up_boot : (c : Config) (before : Trace) (r : Entry) (site boot : ℕ) → r.what ≡ rec.Up site boot → ((s : ℕ) → IsSite c s → BootsAreLow s before r) → may_follow c (past c before) (rec.Up site boot) ≡ true → IsSite c site → is_counted boot ≡ true
up_boot c before r site boot is low may there =
    let own : boot_of (r ∷ before) site ≤ 134217729 = (low site there).after_it in
    let after : boot_of (r ∷ before) site ≡ boot_now (rec.Up site boot) = ap boot_now is in
    counted boot (above boot (and_second _ (nat_lt (site_at (past c before) site).boot boot) (and_second (is_there (past c before) site) _ may))) (omega (arith, own, after, same))
  where
    boot_now : Record → ℕ
    boot_now w = boot_of (record { line = r.line; what = w } ∷ before) site

    same : cond (site == site) boot (boot_of before site) ≡ boot
    same = ap (λ (b : Bool). cond b boot (boot_of before site)) (equal_self site)

    above : (n : ℕ) → nat_lt (site_at (past c before) site).boot n ≡ true → 1 ≤ n
    above n e = grind (arith, nat_tests)

-- ---- calls ----

caller_text : (c : Config) (before : Trace) (r : Entry) (id : CallId) → ((s : ℕ) → IsSite c s → BootsAreLow s before r) → IsCaller c before id → is_counted id.n ≡ true → is_call_id id ≡ true
caller_text c before r id low k n =
    let own : boot_of before id.site ≤ 134217729 = (low id.site k.boot.there).before_it in
    call_text id (any_site c.sites id.site k.boot.there) (counted id.boot k.boot.from (omega (arith, own, k.boot.to))) n

site_fits : (n site : ℕ) → is_site n site ≡ true → is_site sites_max site ≡ true
site_fits n site h = grind (arith, nat_tests)

site_high : (n site : ℕ) → is_site n site ≡ true → site ≤ sites_max
site_high n site h = grind (arith, nat_tests)

copies_fit : (n : ℕ) (set : Sites) → is_some_sites n set ≡ true → is_some_sites sites_max set ≡ true
copies_fit n set h = let parts = both_true (nat_lt 0 set.0) (nat_lt set.0 (2 ^ min n sites_max)) h in and_true (nat_lt 0 set.0) (nat_lt set.0 (2 ^ sites_max)) parts.0 (less_test set.0 (2 ^ sites_max) (within (2 ^ min n sites_max) (pow_mono (low n)) (less set.0 (2 ^ min n sites_max) parts.1)))
  where
    low : (m : ℕ) → min m sites_max ≤ sites_max
    low m = omega arith

    within : (most : ℕ) → most ≤ 2 ^ sites_max → set.0 < most → set.0 < 2 ^ sites_max
    within most le below = omega (arith, le, below)

set_fits : (n : ℕ) (sites : Option Sites) → fits_copies n sites ≡ true → fits_copies sites_max sites ≡ true
set_fits n None h = refl
set_fits n (Some set) h = copies_fit n set h

mode_fits : (n : ℕ) (m : OpenMode) → fits_mode n m ≡ true → fits_mode sites_max m ≡ true
mode_fits n how.Read h = refl
mode_fits n how.Write h = refl
mode_fits n how.Steady h = refl
mode_fits n (how.Resolve site) h = site_fits n site h

-- words that a line may have in a cluster are such in any
line_fits : (n : ℕ) (words : Call) → fits_call n words ≡ true → fits_call sites_max words ≡ true
line_fits n (call.Create path sites) h = let parts = both_true (is_word path) (fits_copies n sites) h in and_true (is_word path) (fits_copies sites_max sites) parts.0 (set_fits n sites parts.1)
line_fits n (call.Open path mode) h = let parts = both_true (is_word path) (fits_mode n mode) h in and_true (is_word path) (fits_mode sites_max mode) parts.0 (mode_fits n mode parts.1)
line_fits n _ h = h

usual_words : (n process : ℕ) (words : Call) → is_between 1 8 process ≡ true → fits_call n words ≡ true → (is_process process ≡ true) × (is_words process words ≡ true)
usual_words n process words p f = (wide process p, ap (λ (b : Bool). cond b (is_mend words) (fits_call sites_max words)) (some process p) ∙ line_fits n words f)
  where
    wide : (m : ℕ) → is_between 1 8 m ≡ true → is_process m ≡ true
    wide m e = grind (arith, nat_tests)

    some : (m : ℕ) → is_between 1 8 m ≡ true → (m == 0) ≡ false
    some m e = grind (arith, nat_tests)

words_new : (c : Config) (process : ℕ) (words : Call) → IsOfProcess c process words → (is_process process ≡ true) × (is_new_call process words ≡ true)
words_new c process (call.Mend file) h = (ap is_process h, refl)
words_new c process words h = usual_words c.sites process words h.0 h.1

-- ---- instances, and listed packets ----

low : (n : ℕ) → 1 ≤ n → n ≤ 134479872 → is_counted n ≡ true
low n from to = grind (arith, nat_tests)

instance_text : (c : Config) (before : Trace) (id : CallId) (i : Serial) → IsCaller c before id → IsSerial id i → is_instance i ≡ true
instance_text c before id i k s = and_true (is_any_site i.us) (is_counted i.serial) (subst (λ (site : ℕ). is_any_site site ≡ true) (sym s.of_caller) (any_site c.sites id.site k.boot.there)) (low i.serial s.least s.most)

packet_text : (n from to : ℕ) → IsListed n from to → (is_counted n && (is_any_site from && is_any_site to)) ≡ true
packet_text n from to k = and_true (is_counted n) (is_any_site from && is_any_site to) (low n k.least k.most) (and_true (is_any_site from) (is_any_site to) (there from k.from_site) (there to k.to_site))
  where
    there : (site : ℕ) → (1 ≤ site) × (site ≤ sites_max) → is_any_site site ≡ true
    there site h = let a : 1 ≤ site = h.0 in let b : site ≤ sites_max = h.1 in grind (arith, nat_tests)

-- ---- all records ----

pub new_text : (c : Config) (before : Trace) (r : Entry) → Known c before r → is_new_text r.what ≡ true
new_text c before r k = by r.what refl
  where
    may : (w : Record) → r.what ≡ w → may_follow c (past c before) w ≡ true
    may w e = subst (λ (x : Record). may_follow c (past c before) x ≡ true) e k.may

    speaks : (w : Record) → r.what ≡ w → RecordSpeaks c before w
    speaks w e = subst (RecordSpeaks c before) e k.speaks

    accept : (site process : ℕ) (id : CallId) (words : Call) → r.what ≡ rec.Accept site process id words → RecordSpeaks c before (rec.Accept site process id words) → CountsRecord (rec.Accept site process id words) → is_new_text (rec.Accept site process id words) ≡ true
    accept site process id words e said n =
        let new = words_new c process words said.2 in
        and_true (is_process process) (is_call_id id && is_new_call process words) new.0 (and_true (is_call_id id) (is_new_call process words) (caller_text c before r id k.boots said.1 n) new.1)

    join : (site : ℕ) (epoch : EpochId) (members : Members) → JoinFits (rec.Join site epoch members) → RecordSpeaks c before (rec.Join site epoch members) → MemberRecord before (rec.Join site epoch members) → (is_epoch epoch && is_members members) ≡ true
    join site epoch members fits said same = (let low : 1 ≤ boot_of before site = k.begun site in join_text site epoch members (site_high c.sites site said.0) (omega (arith, low, same)) fits)

    by : (w : Record) → r.what ≡ w → is_new_text w ≡ true
    by (rec.Up site boot) e = up_boot c before r site boot e k.boots (may (rec.Up site boot) e) (speaks (rec.Up site boot) e)
    by (rec.Accept site process id words) e = accept site process id words e (speaks (rec.Accept site process id words) e) (subst CountsRecord e k.calls)
    by (rec.Act epoch i n o result) e = act_counted c before epoch i n o result k.few (may (rec.Act epoch i n o result) e)
    by (rec.Commit f site stamp parents content) e = (subst CommitFits e k.versions).1
    by (rec.Join site epoch members) e = join site epoch members (subst JoinFits e k.joins) (speaks (rec.Join site epoch members) e) (subst (MemberRecord before) e k.members)
    by (rec.Look epoch id request f w result) e = subst AsksLow e k.asks
    by (rec.Grant epoch id request i m f stamp ss) e = and_true (is_request request) (is_instance i) (subst AsksLow e k.asks) (instance_text c before id i (speaks (rec.Grant epoch id request i m f stamp ss) e).1 (subst ReachedRecord e k.reached))
    by (rec.Refuse epoch id request i m f why) e = and_true (is_request request) (is_instance i) (subst AsksLow e k.asks) (instance_text c before id i (speaks (rec.Refuse epoch id request i m f why) e).1 (subst ReachedRecord e k.reached))
    by (rec.Packet n from to kind) e = packet_text n from to (subst ReachedRecord e k.reached)
    by _ e = refl
