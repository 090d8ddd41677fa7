-- What an event tells, line by line: no site's count of opens is above the bound.
use Rattle.std.proofs.Common.{◌≡◌, ◌≤◌, ℕ, ◌+◌, ◌==◌, Bool, true, false, cond, ◌&&◌, List, [], ◌∷◌, refl, sym, ◌∙◌, ap, subst, arith, inl, inr}
use Rattle.plain_facts.proofs.Numbers.{equal}
use Rattle.locus_ids.specs.declared.config.Config.{Config}
use Rattle.locus_ids.specs.declared.ids.CallId.{CallId}
use Rattle.trace_book.specs.declared.call.Call.{Call}
use Rattle.call_rules.specs.declared.answer.Answer.{Answer}
use Rattle.trace_book.specs.declared.record.Record.{Record}
use Rattle.trace_book.specs.declared.record.Record.TheVariants as says
use Rattle.role_steps.specs.Own.{Every}
use Rattle.role_steps.specs.Views.{Told, Shown, Takes}
use Rattle.the_run.specs.Worlds.{Line, told_onto}
use Rattle.tree_laws.specs.Serials.{asked_now, is_open_want, opens_asked}
use Rattle.rest_laws.specs.of_store_laws.OneTree.Places.{AllOf, IsOf}
use Rattle.rest_laws.specs.of_row_laws.Events.{Causes, SiteRecord, SiteTold}
use Rattle.rest_laws.specs.of_row_laws.Inward.{ServedRecord}
use Rattle.packet_laws.specs.Reaching.Reach.{IsListed}

-- ---- what is kept of each line ----

-- no site has asked more opens in its boot
abbrev pub OpensLow : Config → List Line → Type 0
OpensLow c t = (site : ℕ) → opens_asked c t site ≤ 134479872

abbrev pub ListedRecord : Record → Type 0
ListedRecord (says.Packet n from to kind) = IsListed n from to
ListedRecord _ = Unit {0}

abbrev pub ListedTold : Told → Type 0
ListedTold (Shown r) = ListedRecord r
ListedTold _ = Unit {0}

abbrev pub EachLow : Config → List Line → Type 0
EachLow c [] = Unit {0}
EachLow c (x ∷ older) = (OpensLow c (x ∷ older) × ListedTold x.told) × EachLow c older

pub last_low : (c : Config) (t : List Line) → EachLow c t → OpensLow c t
last_low c [] h = λ site. omega arith
last_low c (x ∷ older) h = h.0.0

-- ---- lines at which nobody begins to ask ----

abbrev StillRecord : Record → Type 0
StillRecord (says.Accept site process id words) = ⊥
StillRecord (says.Up site boot) = ⊥
StillRecord r = ListedRecord r

-- no call is accepted or takes an answer, and no site boots
abbrev pub Still : Told → Type 0
Still (Shown r) = StillRecord r
Still (Takes site id request times a) = ⊥
Still _ = Unit {0}

abbrev pub With : ℕ → Told → List Line → List Line
With n x older = record { number = n; told = x } ∷ older

still_record : (c : Config) (n : ℕ) (r : Record) (t : List Line) → StillRecord r → EachLow c t → EachLow c (With n (Shown r) t)
still_record c n (says.Accept site process id words) t k h = absurd k
still_record c n (says.Up site boot) t k h = absurd k
still_record c n (says.Packet m from to kind) t k h = ((last_low c t h, k), h)
still_record c n r t k h = ((last_low c t h, tt), h)

still_told : (c : Config) (n : ℕ) (x : Told) (t : List Line) → Still x → EachLow c t → EachLow c (With n x t)
still_told c n (Shown r) t k h = still_record c n r t k h
still_told c n (Takes site id request times a) t k h = absurd k
still_told c n x t k h = ((last_low c t h, tt), h)

pub all_still : (c : Config) (n : ℕ) (xs : List Told) (t : List Line) → Every Still xs → EachLow c t → EachLow c (told_onto n xs t)
all_still c n [] t k h = h
all_still c n (x ∷ xs) t k h = all_still c n xs (With n x t) k.1 (still_told c n x t k.0 h)

-- ---- a boot ----

pub up_low : (c : Config) (n s boot : ℕ) (t : List Line) → EachLow c t → EachLow c (With n (Shown (says.Up s boot)) t)
up_low c n s boot t h = (((λ site. at site (s == site) (last_low c t h site)), tt), h)
  where
    at : (site : ℕ) (b : Bool) → opens_asked c t site ≤ 134479872 → cond b 0 (opens_asked c t site) ≤ 134479872
    at site true k = omega arith
    at site false k = k

-- ---- an event of a site ----

abbrev OwnRecord : ℕ → Record → Type 0
OwnRecord s (says.Accept site process id words) = site ≡ s
OwnRecord s (says.Up site boot) = ⊥
OwnRecord s (says.Packet n from to kind) = ⊥
OwnRecord s _ = Unit {0}

-- calls of this site alone begin to ask, and it doesn't boot
abbrev pub Own : ℕ → Told → Type 0
Own s (Shown r) = OwnRecord s r
Own s (Takes site id request times a) = site ≡ s
Own s _ = Unit {0}

-- the count of the site rises, and that of the others stays
record Goes (c : Config) (n s : ℕ) (x : Told) (t : List Line) : Type 0 where
  rises : opens_asked c t s ≤ opens_asked c (With n x t) s
  stays : (site : ℕ) → (s == site) ≡ false → opens_asked c (With n x t) site ≡ opens_asked c t site
  listed : ListedTold x

counted : (b d : Bool) (m : ℕ) → m ≤ cond (b && d) (m + 1) m
counted true true m = omega arith
counted true false m = omega arith
counted false d m = omega arith

asks_goes : (c : Config) (n s site : ℕ) (x : Told) (t : List Line) (d : Bool) → site ≡ s → ListedTold x → ((other : ℕ) → opens_asked c (With n x t) other ≡ cond ((site == other) && d) (opens_asked c t other + 1) (opens_asked c t other)) → Goes c n s x t
asks_goes c n s site x t d same listed is = record {
  rises = (let a : opens_asked c (With n x t) s ≡ cond ((site == s) && d) (opens_asked c t s + 1) (opens_asked c t s) = is s in let k : opens_asked c t s ≤ cond ((site == s) && d) (opens_asked c t s + 1) (opens_asked c t s) = counted (site == s) d (opens_asked c t s) in subst (λ (m : ℕ). opens_asked c t s ≤ m) (sym a) k);
  stays = λ other e. is other ∙ ap (λ (b : Bool). cond (b && d) (opens_asked c t other + 1) (opens_asked c t other)) (subst (λ (m : ℕ). (m == other) ≡ false) (sym same) e);
  listed = listed;
}

own_record : (c : Config) (n s : ℕ) (r : Record) (t : List Line) → OwnRecord s r → Goes c n s (Shown r) t
own_record c n s (says.Accept site process id words) t k = asks_goes c n s site (Shown (says.Accept site process id words)) t (is_open_want (asked_now c (With n (Shown (says.Accept site process id words)) t) id)) k tt (λ other. refl)
own_record c n s (says.Up site boot) t k = absurd k
own_record c n s (says.Packet m from to kind) t k = absurd k
own_record c n s r t k = record { rises = omega arith; stays = λ site e. refl; listed = tt }

own_told : (c : Config) (n s : ℕ) (x : Told) (t : List Line) → Own s x → Goes c n s x t
own_told c n s (Shown r) t k = own_record c n s r t k
own_told c n s (Takes site id request times a) t k = asks_goes c n s site (Takes site id request times a) t (is_open_want (asked_now c (With n (Takes site id request times a) t) id)) k tt (λ other. refl)
own_told c n s x t k = record { rises = omega arith; stays = λ site e. refl; listed = tt }

-- the count after the event is no less than on the way to it
later : (c : Config) (n s : ℕ) (xs : List Told) (t : List Line) → Every (Own s) xs → opens_asked c t s ≤ opens_asked c (told_onto n xs t) s
later c n s [] t k = omega arith
later c n s (x ∷ xs) t k =
    let a : opens_asked c t s ≤ opens_asked c (With n x t) s = (own_told c n s x t k.0).rises in
    let b : opens_asked c (With n x t) s ≤ opens_asked c (told_onto n xs (With n x t)) s = later c n s xs (With n x t) k.1 in
    omega (arith, a, b)

pub all_own : (c : Config) (n s : ℕ) (xs : List Told) (t : List Line) → Every (Own s) xs → opens_asked c (told_onto n xs t) s ≤ 134479872 → EachLow c t → EachLow c (told_onto n xs t)
all_own c n s [] t k low h = h
all_own c n s (x ∷ xs) t k low h = all_own c n s xs (With n x t) k.1 low (((λ site. at site (s == site) refl), it.listed), h)
  where
    it : Goes c n s x t
    it = own_told c n s x t k.0

    own : opens_asked c (With n x t) s ≤ 134479872
    own = let a : opens_asked c (With n x t) s ≤ opens_asked c (told_onto n xs (With n x t)) s = later c n s xs (With n x t) k.1 in omega (arith, a, low)

    at : (site : ℕ) (b : Bool) → (s == site) ≡ b → opens_asked c (With n x t) site ≤ 134479872
    at site true e = subst (λ (m : ℕ). opens_asked c (With n x t) m ≤ 134479872) (equal s site e) own
    at site false e = subst (λ (m : ℕ). m ≤ 134479872) (sym (it.stays site e)) (last_low c t h site)

-- ---- what a site tells is its own ----

accept_own : (c : Config) (t : List Line) (s site process : ℕ) (id : CallId) (words : Call) → IsOf c t s (Shown (says.Accept site process id words)) → site ≡ s
accept_own c t s site process id words (inl h) = h
accept_own c t s site process id words (inr (inl h)) = absurd h
accept_own c t s site process id words (inr (inr (inl h))) = absurd h
accept_own c t s site process id words (inr (inr (inr (inl h)))) = absurd h.1
accept_own c t s site process id words (inr (inr (inr (inr (inl h))))) = absurd h.of
accept_own c t s site process id words (inr (inr (inr (inr (inr h))))) = absurd h

takes_own : (c : Config) (t : List Line) (s site : ℕ) (id : CallId) (request times : ℕ) (a : Answer) → IsOf c t s (Takes site id request times a) → site ≡ s
takes_own c t s site id request times a (inl h) = h
takes_own c t s site id request times a (inr (inl h)) = absurd h
takes_own c t s site id request times a (inr (inr (inl h))) = absurd h
takes_own c t s site id request times a (inr (inr (inr (inl h)))) = absurd h.1
takes_own c t s site id request times a (inr (inr (inr (inr (inl h))))) = absurd h.of
takes_own c t s site id request times a (inr (inr (inr (inr (inr h))))) = absurd h

record_own : (c : Config) (t : List Line) (s : ℕ) (k : Causes) (r : Record) → SiteRecord s k r → IsOf c t s (Shown r) → OwnRecord s r
record_own c t s k (says.Accept site process id words) told of = accept_own c t s site process id words of
record_own c t s k (says.Up site boot) told of = told
record_own c t s k (says.Packet n from to kind) told of = told
record_own c t s k r told of = tt

told_own : (c : Config) (t : List Line) (s : ℕ) (k : Causes) (x : Told) → SiteTold s k x → IsOf c t s x → Own s x
told_own c t s k (Shown r) told of = record_own c t s k r told of
told_own c t s k (Takes site id request times a) told of = takes_own c t s site id request times a of
told_own c t s k x told of = tt

pub site_own : (c : Config) (n s : ℕ) (k : Causes) (xs : List Told) (t : List Line) → Every (SiteTold s k) xs → AllOf c n t s xs → Every (Own s) xs
site_own c n s k [] t told of = tt
site_own c n s k (x ∷ xs) t told of = (told_own c t s k x told.0 of.0, site_own c n s k xs (With n x t) told.1 of.1)

-- a version's record is no such line
pub version_still : (r : Record) → ServedRecord r → Still (Shown r)
version_still (says.Accept site process id words) h = h
version_still (says.Up site boot) h = h
version_still (says.Packet n from to kind) h = absurd h
version_still r h = tt
