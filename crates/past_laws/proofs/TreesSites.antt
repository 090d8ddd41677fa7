-- What a site has in an epoch, by both formulations; and that it has one version of a file.
use Rattle.std.proofs.Common.{◌≡◌, ℕ, ◌==◌, ◌≤◌, ◌+◌, Bool, true, false, not, cond, ◌&&◌, ◌++◌, List, [], ◌∷◌, length, filter, Some, None, refl, sym, ◌∙◌, ap, subst, arith}
use Rattle.std.specs.Prelude.{fold}
use Rattle.std.specs.List.{list_any}
use Rattle.locus_ids.specs.declared.config.Config.{Config}
use Rattle.locus_ids.specs.declared.ids.EpochId.{EpochId}
use Rattle.locus_ids.specs.declared.ids.FileId.{FileId}
use Rattle.commit_graph.specs.Versions.{same_file}
use Rattle.trace_book.specs.declared.reply.Reply.{Reply}
use Rattle.trace_book.specs.declared.record.Record.{Record}
use Rattle.trace_book.specs.declared.record.Record.TheVariants as says
use Rattle.tree_model.specs.Epochs.{epoch_of, is_in}
use Rattle.tree_model.specs.Folds.{Trace}
use Rattle.tree_model.specs.Histories.{history}
use Rattle.tree_model.specs.State.{held_at}
use Rattle.tree_model.specs.Tree.{next, tree_of}
use Rattle.promises.specs.of_lawful_trace.Lawful.{MayCome}
use Rattle.promises.specs.Past.{Past, Site, Epoch, Copy, Left, CallSoFar, is_named, first_or, no_site, site_at, epoch_at, unformed, copies_in, held_in, stamp_in}
use Rattle.promises.specs.Rows.{is_there}
use Rattle.promises.specs.After.{change, change_epoch, departed, is_home_of, is_freed, is_id, is_epoch, is_ender, close_answer, replied_to, taken_by, after, has_now, held_again}
use Rattle.past_laws.specs.Agreement.{Agrees, SitesAgree}
use Rattle.past_laws.proofs.Names.{false_true, number_eq, file_eq}
use Rattle.past_laws.proofs.Changing.{changed_so, changed_not}
use Rattle.past_laws.proofs.TreesAt.{first_kept, first_missed, at_kept, at_changed, at_missed, answers_kept, id_at, is_formed}
use Rattle.past_laws.proofs.TreesFormed.{formed_inside}
use Rattle.past_laws.proofs.TreesHeld.{held_stays, held_now}
use Rattle.past_laws.proofs.TreesKept.{told_kept}
use Rattle.past_laws.proofs.TreesLists.{filter_less, filter_both}

-- What a site has now.

pub site_kept : {Y : Type 0} (g : Site → Y) (z : ℕ) (f : Site → Site) → ((s : Site) → (f s).number ≡ s.number) → ((s : Site) → g (f s) ≡ g s) → (sites : List Site) (site : ℕ) → g (first_or no_site (λ (s : Site). s.number == site) (change (λ (s : Site). s.number == z) f sites)) ≡ g (first_or no_site (λ (s : Site). s.number == site) sites)
site_kept g z f numbers keep sites site = first_kept g no_site (λ (s : Site). s.number == site) (λ (s : Site). s.number == z) f (λ s. ap (λ n. n == site) (numbers s)) keep sites

-- but for commits and adoptions it has what it had
abbrev pub VersionsStay : Config → Record → Past → ℕ → Type 0
VersionsStay c (says.Commit f s stamp ps content) p site = Unit {0}
VersionsStay c (says.Adopt f s stamp) p site = Unit {0}
VersionsStay c r p site = (site_at (after c r p) site).held ≡ (site_at p site).held

abbrev versions : Site → List Copy
versions s = s.held

replies_stay : (r : Reply) (ks : List CallSoFar) (p : Past) (site : ℕ) → (site_at (fold (λ old k. replied_to r k old) p ks) site).held ≡ (site_at p site).held
replies_stay r [] p site = refl
replies_stay r (k ∷ ks) p site = replies_stay r ks (replied_to r k p) site ∙ site_kept versions k.id.site (λ (s : Site). record s { descriptors = taken_by r k ++ held_again r k s.descriptors }) (λ s. refl) (λ s. refl) p.sites site

pub versions_stay : (c : Config) (r : Record) (p : Past) (site : ℕ) → VersionsStay c r p site
versions_stay c (says.Up z b) p site = site_kept versions z (λ (s : Site). record s { up = true; boot = b; joined = None; accepted = 0 }) (λ s. refl) (λ s. refl) p.sites site
versions_stay c (says.Stopped z w) p site = site_kept versions z (λ (s : Site). record s { up = false; descriptors = [] }) (λ s. refl) (λ s. refl) (change (λ (s : Site). s.number == z) (λ (s : Site). record s { epoch = None }) p.sites) site
    ∙ site_kept versions z (λ (s : Site). record s { epoch = None }) (λ s. refl) (λ s. refl) p.sites site
versions_stay c (says.Leave z a) p site = site_kept versions z (λ (s : Site). record s { epoch = None }) (λ s. refl) (λ s. refl) p.sites site
versions_stay c (says.Join z a m) p site = at (list_any (is_epoch a) p.epochs)
  where
    come : Site → Site
    come s = record s { epoch = Some a; joined = Some a }

    at : (b : Bool) → (first_or no_site (λ (s : Site). s.number == site) (change (λ (s : Site). s.number == z) come (cond b p (record p { epochs = record (unformed a) { members = m } ∷ p.epochs })).sites)).held ≡ (site_at p site).held
    at true = site_kept versions z come (λ s. refl) (λ s. refl) p.sites site
    at false = site_kept versions z come (λ s. refl) (λ s. refl) p.sites site
versions_stay c (says.Start a g bs) p site = refl
versions_stay c (says.Accept z q id words) p site = site_kept versions z (λ (s : Site). record s { accepted = s.accepted + 1; descriptors = filter (λ d. not (is_freed words q d)) s.descriptors }) (λ s. refl) (λ s. refl) p.sites site
versions_stay c (says.Look a id n f w result) p site = refl
versions_stay c (says.Grant a id n i m f stamp ss) p site = refl
versions_stay c (says.Refuse a id n i m f why) p site = refl
versions_stay c (says.Act a i n o result) p site = refl
versions_stay c (says.Commit f s stamp ps content) p site = tt
versions_stay c (says.Release a i f stamp) p site = ap (λ ss. (first_or no_site (λ (s : Site). s.number == site) ss).held) (answers_kept (is_ender (epoch_at p a) i) (close_answer stamp) (filter (is_named i) (epoch_at p a).opened) p).sites
versions_stay c (says.Adopt f s stamp) p site = tt
versions_stay c (says.Answer s q id r) p site = replies_stay r (filter (is_id id) p.calls) p site
versions_stay c (says.Packet n from to kind) p site = refl
versions_stay c says.Void p site = refl
versions_stay c says.Budget p site = refl

-- One version of a file.

-- a fact of the first that passes, which a change keeps
first_has : {X : Type 0} (P : X → Type 0) (d : X) (q r : X → Bool) (f : X → X) → ((x : X) → q (f x) ≡ q x) → ((x : X) → P x → P (f x)) → (xs : List X) → P (first_or d q xs) → P (first_or d q (change r f xs))
first_has P d q r f same keep [] h = h
first_has {X} P d q r f same keep (x ∷ xs) h = at (first_has P d q r f same keep xs) (r x) (q x) refl h
  where
    at : (P (first_or d q xs) → P (first_or d q (change r f xs))) → (a b : Bool) → q x ≡ b → P (cond b x (first_or d q xs)) → P (cond (q (cond a (f x) x)) (cond a (f x) x) (first_or d q (change r f xs)))
    at later true true e k = subst (λ y. P (cond y (f x) (first_or d q (change r f xs)))) (sym (same x ∙ e)) (keep x k)
    at later true false e k = subst (λ y. P (cond y (f x) (first_or d q (change r f xs)))) (sym (same x ∙ e)) (later k)
    at later false true e k = subst (λ y. P (cond y x (first_or d q (change r f xs)))) (sym e) k
    at later false false e k = subst (λ y. P (cond y x (first_or d q (change r f xs)))) (sym e) (later k)

abbrev of_file : FileId → Copy → Bool
of_file f v = same_file v.file f

none : (q : Copy → Bool) → ((v : Copy) → q v ≡ false) → (ws : List Copy) → filter q ws ≡ []
none q fails [] = refl
none q fails (w ∷ ws) = ap (λ b. cond b (w ∷ filter q ws) (filter q ws)) (fails w) ∙ none q fails ws

one_put : (new : Copy) (f : FileId) (vs : List Copy) → length (filter (of_file f) vs) ≤ 1 → length (filter (of_file f) (new ∷ filter (λ (v : Copy). not (same_file v.file new.file)) vs)) ≤ 1
one_put new f vs one = at (of_file f new) refl
  where
    gone : (v : Copy) → same_file new.file f ≡ true → (of_file f v && not (same_file v.file new.file)) ≡ false
    gone v e = ap (λ g. same_file v.file g && not (same_file v.file new.file)) (sym (file_eq new.file f e)) ∙ never (same_file v.file new.file)
      where
        never : (b : Bool) → (b && not b) ≡ false
        never true = refl
        never false = refl

    at : (b : Bool) → of_file f new ≡ b → length (cond b (new ∷ filter (of_file f) (filter (λ (v : Copy). not (same_file v.file new.file)) vs)) (filter (of_file f) (filter (λ (v : Copy). not (same_file v.file new.file)) vs))) ≤ 1
    at true e = subst (λ ws. length (new ∷ ws) ≤ 1) (sym (filter_both (of_file f) (λ (v : Copy). not (same_file v.file new.file)) vs ∙ none (λ (v : Copy). of_file f v && not (same_file v.file new.file)) (λ v. gone v e) vs)) (omega arith)
    at false e = omega (arith, filter_less (of_file f) (λ (v : Copy). not (same_file v.file new.file)) vs, one)

abbrev OneOf : FileId → List Copy → Type 0
OneOf f vs = length (filter (λ (v : Copy). same_file v.file f) vs) ≤ 1

one_now : (z : ℕ) (new : Copy) (p : Past) (site : ℕ) (f : FileId) → OneOf f (site_at p site).held → OneOf f (site_at (has_now z new p) site).held
one_now z new p site f one = first_has (λ (s : Site). OneOf f s.held) no_site (λ (s : Site). s.number == site) (λ (s : Site). s.number == z) (λ (s : Site). record s { held = new ∷ filter (λ (v : Copy). not (same_file v.file new.file)) s.held }) (λ s. refl) (λ s k. one_put new f s.held k) p.sites one

pub one_copy_step : (c : Config) (r : Record) (before : Trace) (p : Past) → Agrees c before p → (site : ℕ) (f : FileId) → length (filter (λ (v : Copy). same_file v.file f) (site_at (after c r p) site).held) ≤ 1
one_copy_step c (says.Commit g z stamp ps content) before p k site f = one_now z (record { file = g; stamp = stamp }) p site f (k.trees.one_copy site f)
one_copy_step c (says.Adopt g z stamp) before p k site f = one_now z (record { file = g; stamp = stamp }) p site f (k.trees.one_copy site f)
one_copy_step c r before p k site f = subst (OneOf f) (sym (versions_stay c r p site)) (k.trees.one_copy site f)

-- What a site has in an epoch.

abbrev left_of : ℕ → Epoch → List Copy
left_of site t = (first_or (record { site = site; held = [] }) (λ (l : Left). l.site == site) t.left).held

here_is : (c : Config) (trace : Trace) (p : Past) → SitesAgree c trace p → (e : EpochId) (site : ℕ) → copies_in p (epoch_at p e) site ≡ cond (is_in (epoch_of trace site) e) (site_at p site).held (left_of site (epoch_at p e))
here_is c trace p k e site = ap (λ b. cond b (site_at p site).held (left_of site (epoch_at p e))) (ap (λ o. is_in o (epoch_at p e).id) (k.epoch site) ∙ ap (is_in (epoch_of trace site)) (id_at p e))

pub inside_is : (c : Config) (trace : Trace) (p : Past) → SitesAgree c trace p → (e : EpochId) (site : ℕ) → is_in (epoch_of trace site) e ≡ true → copies_in p (epoch_at p e) site ≡ (site_at p site).held
inside_is c trace p k e site h = here_is c trace p k e site ∙ ap (λ b. cond b (site_at p site).held (left_of site (epoch_at p e))) h

outside_is : (c : Config) (trace : Trace) (p : Past) → SitesAgree c trace p → (e : EpochId) (site : ℕ) → is_in (epoch_of trace site) e ≡ false → copies_in p (epoch_at p e) site ≡ left_of site (epoch_at p e)
outside_is c trace p k e site h = here_is c trace p k e site ∙ ap (λ b. cond b (site_at p site).held (left_of site (epoch_at p e))) h

-- a site that leaves: the epoch keeps what it has
departs : (c : Config) (before : Trace) (p : Past) → Agrees c before p → (z : ℕ) (e : EpochId) (site : ℕ) → is_in (cond (z == site) None (epoch_of before site)) e ≡ false → left_of site (epoch_at (departed z p) e) ≡ copies_in p (epoch_at p e) site
departs c before p k z e site out = at (z == site) refl out
  where
    leave : Epoch → Epoch
    leave t = record t { left = record { site = z; held = (site_at p z).held } ∷ t.left }

    home : is_home_of p z (epoch_at p e) ≡ is_in (epoch_of before z) e
    home = ap (λ o. is_in o (epoch_at p e).id) (k.sites.epoch z) ∙ ap (is_in (epoch_of before z)) (id_at p e)

    same : is_in (epoch_of before z) e ≡ false → (b : Bool) → is_formed p e ≡ b → epoch_at (change_epoch (is_home_of p z) leave p) e ≡ epoch_at p e
    same h true j = at_changed (is_home_of p z) leave (λ t. refl) p e j ∙ changed_not (is_home_of p z) leave (epoch_at p e) (home ∙ h)
    same h false j = at_missed (is_home_of p z) leave (λ t. refl) p e j

    own : (b : Bool) → (z == site) ≡ true → is_in (epoch_of before z) e ≡ b → left_of site (epoch_at (change_epoch (is_home_of p z) leave p) e) ≡ copies_in p (epoch_at p e) site
    own true is h = ap (left_of site) (at_changed (is_home_of p z) leave (λ t. refl) p e (formed_inside c before p k.epochs z e h) ∙ changed_so (is_home_of p z) leave (epoch_at p e) (home ∙ h))
        ∙ (ap (λ b. (cond b (record { site = z; held = (site_at p z).held }) (first_or (record { site = site; held = [] }) (λ (l : Left). l.site == site) (epoch_at p e).left)).held) is
        ∙ (ap (λ n. (site_at p n).held) (number_eq z site is)
        ∙ sym (inside_is c before p k.sites e site (ap (λ n. is_in (epoch_of before n) e) (sym (number_eq z site is)) ∙ h))))
    own false is h = ap (left_of site) (same h (is_formed p e) refl) ∙ sym (outside_is c before p k.sites e site (ap (λ n. is_in (epoch_of before n) e) (sym (number_eq z site is)) ∙ h))

    at : (b : Bool) → (z == site) ≡ b → is_in (cond b None (epoch_of before site)) e ≡ false → left_of site (epoch_at (change_epoch (is_home_of p z) leave p) e) ≡ copies_in p (epoch_at p e) site
    at true is h = own (is_in (epoch_of before z) e) is refl
    at false is h = at_kept (left_of site) (is_home_of p z) leave (λ t. refl) (λ t. ap (λ b. (cond b (record { site = z; held = (site_at p z).held }) (first_or (record { site = site; held = [] }) (λ (l : Left). l.site == site) t.left)).held) is) p e ∙ sym (outside_is c before p k.sites e site h)

-- a site that is outside after the record has what it had
abbrev Stays : Config → Record → Trace → Past → EpochId → ℕ → Type 0
Stays c r before p e site = left_of site (epoch_at (after c r p) e) ≡ copies_in p (epoch_at p e) site

copies_stay : (c : Config) (n : ℕ) (r : Record) (before : Trace) (p : Past) → MayCome c before r → Agrees c before p → SitesAgree c (record { line = n; what = r } ∷ before) (after c r p) → (e : EpochId) (site : ℕ) → is_in (epoch_of (record { line = n; what = r } ∷ before) site) e ≡ false → Stays c r before p e site
copies_stay c n (says.Up z b) before p may k after_is e site out = told_kept (left_of site) c (says.Up z b) p tt e ∙ sym (outside_is c before p k.sites e site (ap (λ o. is_in o e) (sym (k.sites.epoch site) ∙ (sym (site_kept (λ (s : Site). s.epoch) z (λ (s : Site). record s { up = true; boot = b; joined = None; accepted = 0 }) (λ s. refl) (λ s. refl) p.sites site) ∙ after_is.epoch site)) ∙ out))
copies_stay c n (says.Stopped z w) before p may k after_is e site out = departs c before p k z e site out
copies_stay c n (says.Leave z a) before p may k after_is e site out = departs c before p k z e site out
copies_stay c n (says.Join z a m) before p may k after_is e site out = told_kept (left_of site) c (says.Join z a m) p (λ t m. refl, λ t js vs. refl) e ∙ sym (outside_is c before p k.sites e site (at (z == site) refl out))
  where
    at : (b : Bool) → (z == site) ≡ b → is_in (cond b (Some a) (epoch_of before site)) e ≡ false → is_in (epoch_of before site) e ≡ false
    at true h j = ap (λ o. is_in o e) (ap (epoch_of before) (sym (number_eq z site h)) ∙ may.outside)
    at false h j = j
copies_stay c n (says.Start a g bs) before p may k after_is e site out = told_kept (left_of site) c (says.Start a g bs) p (λ t gs. refl) e ∙ sym (outside_is c before p k.sites e site out)
copies_stay c n (says.Accept z q id words) before p may k after_is e site out = told_kept (left_of site) c (says.Accept z q id words) p (λ t w. refl) e ∙ sym (outside_is c before p k.sites e site out)
copies_stay c n (says.Look a id x f w result) before p may k after_is e site out = told_kept (left_of site) c (says.Look a id x f w result) p tt e ∙ sym (outside_is c before p k.sites e site out)
copies_stay c n (says.Grant a id x i m f stamp ss) before p may k after_is e site out = told_kept (left_of site) c (says.Grant a id x i m f stamp ss) p (λ t gs xs. refl) e ∙ sym (outside_is c before p k.sites e site out)
copies_stay c n (says.Refuse a id x i m f why) before p may k after_is e site out = told_kept (left_of site) c (says.Refuse a id x i m f why) p (λ t ms. refl) e ∙ sym (outside_is c before p k.sites e site out)
copies_stay c n (says.Act a i x o result) before p may k after_is e site out = told_kept (left_of site) c (says.Act a i x o result) p (λ t xs ms. refl) e ∙ sym (outside_is c before p k.sites e site out)
copies_stay c n (says.Commit f z stamp ps content) before p may k after_is e site out = told_kept (left_of site) c (says.Commit f z stamp ps content) p (λ t xs. refl) e ∙ sym (outside_is c before p k.sites e site out)
copies_stay c n (says.Release a i f stamp) before p may k after_is e site out = told_kept (left_of site) c (says.Release a i f stamp) p (λ t vs xs ms. refl) e ∙ sym (outside_is c before p k.sites e site out)
copies_stay c n (says.Adopt f z stamp) before p may k after_is e site out = told_kept (left_of site) c (says.Adopt f z stamp) p tt e ∙ sym (outside_is c before p k.sites e site out)
copies_stay c n (says.Answer z q id r) before p may k after_is e site out = told_kept (left_of site) c (says.Answer z q id r) p (λ t w fs. refl) e ∙ sym (outside_is c before p k.sites e site out)
copies_stay c n (says.Packet x from to kind) before p may k after_is e site out = told_kept (left_of site) c (says.Packet x from to kind) p tt e ∙ sym (outside_is c before p k.sites e site out)
copies_stay c n says.Void before p may k after_is e site out = told_kept (left_of site) c says.Void p tt e ∙ sym (outside_is c before p k.sites e site out)
copies_stay c n says.Budget before p may k after_is e site out = told_kept (left_of site) c says.Budget p tt e ∙ sym (outside_is c before p k.sites e site out)

pub one_left_step : (c : Config) (n : ℕ) (r : Record) (before : Trace) (p : Past) → MayCome c before r → Agrees c before p → SitesAgree c (record { line = n; what = r } ∷ before) (after c r p) → (e : EpochId) (site : ℕ) (f : FileId) → length (filter (λ (v : Copy). same_file v.file f) (copies_in (after c r p) (epoch_at (after c r p) e) site)) ≤ 1
one_left_step c n r before p may k after_is e site f = at (is_in (epoch_of (record { line = n; what = r } ∷ before) site) e) refl
  where
    at : (b : Bool) → is_in (epoch_of (record { line = n; what = r } ∷ before) site) e ≡ b → OneOf f (copies_in (after c r p) (epoch_at (after c r p) e) site)
    at true h = subst (OneOf f) (sym (inside_is c (record { line = n; what = r } ∷ before) (after c r p) after_is e site h)) (one_copy_step c r before p k site f)
    at false h = subst (OneOf f) (sym (outside_is c (record { line = n; what = r } ∷ before) (after c r p) after_is e site h ∙ copies_stay c n r before p may k after_is e site h)) (k.trees.one_left e site f)

pub held_step : (c : Config) (n : ℕ) (r : Record) (before : Trace) (p : Past) → MayCome c before r → Agrees c before p → SitesAgree c (record { line = n; what = r } ∷ before) (after c r p) → (e : EpochId) (site : ℕ) (f : FileId) → held_in (after c r p) (epoch_at (after c r p) e) site f ≡ held_at (next (history c before) r (tree_of c e f.group before)) site f.ino
held_step c n r before p may k after_is e site f = at (is_in (epoch_of (record { line = n; what = r } ∷ before) site) e) refl
  where
    new : Trace
    new = record { line = n; what = r } ∷ before

    there : (b : Bool) → is_there (after c r p) site ≡ b → is_in (epoch_of new site) e ≡ true → is_there (after c r p) site ≡ true
    there true j h = j
    there false j h = false_true (sym (ap (λ (s : Site). is_in s.epoch e) (first_missed no_site (λ (s : Site). s.number == site) (after c r p).sites j)) ∙ (ap (λ o. is_in o e) (after_is.epoch site) ∙ h))

    at : (b : Bool) → is_in (epoch_of new site) e ≡ b → held_in (after c r p) (epoch_at (after c r p) e) site f ≡ held_at (next (history c before) r (tree_of c e f.group before)) site f.ino
    at true h = ap (λ vs. stamp_in vs f) (inside_is c new (after c r p) after_is e site h) ∙ (after_is.held site (there (is_there (after c r p) site) refl h) f ∙ sym (held_now c e f.group new site f.ino h))
    at false h = ap (λ vs. stamp_in vs f) (outside_is c new (after c r p) after_is e site h ∙ copies_stay c n r before p may k after_is e site h) ∙ (k.trees.held e site f ∙ sym (held_stays c e f.group before n r site f.ino h))
