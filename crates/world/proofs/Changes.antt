-- What a change of the world does to one site, and that all else stays.
use Rattle.std.proofs.Common.{◌≡◌, ◌≢◌, ℕ, Option, Some, None, refl, sym, ap, ◌∙◌}
use Rattle.keyed_tables.specs.Rising.{Rising}
use Rattle.keyed_tables.proofs.Searched.{put_rising, without_rising}
use Rattle.role_steps.specs.Tables.{row, with_row}
use Rattle.the_run.specs.Disks.{Disk, Armed}
use Rattle.the_run.specs.Worlds.{World, Place, Stopped, place_in, place_at, place_site, script_of, armed_site, puts, arms, stops_with}
use Rattle.run_book.specs.Ledgers.{Elsewhere}
use Rattle.world.proofs.Tables.{put_here, put_there, out_here, out_there}

-- the site stands so, with this script, and all else is as it was
pub record Changes (s : ℕ) (place : Place) (armed : Option Armed) (old new : World) : Type 0 where
  pub place_here : place_at new s ≡ Some place
  pub place_there : (t : ℕ) → t ≢ s → place_at new t ≡ place_at old t
  pub script_here : script_of new s ≡ armed
  pub script_there : (t : ℕ) → t ≢ s → script_of new t ≡ script_of old t
  pub table : Rising armed_site new.armed
  pub circuits : new.circuits ≡ old.circuits
  pub elsewhere : Elsewhere old new

flip : (a b : ℕ) → a ≢ b → b ≢ a
flip a b ne e = ne (sym e)

module _ (s : ℕ) (w : World) (r : Rising armed_site w.armed) where
  puts_here : (p : Place) → place_in (row place_site s (with_row place_site (record { site = s; place = p }) w.places)) ≡ Some p
  puts_here p = ap place_in (put_here place_site (record { site = s; place = p }) s w.places refl)

  puts_there : (p : Place) (t : ℕ) → t ≢ s → place_in (row place_site t (with_row place_site (record { site = s; place = p }) w.places)) ≡ place_in (row place_site t w.places)
  puts_there p t ne = ap place_in (put_there place_site (record { site = s; place = p }) t w.places (flip t s ne))

  -- the site stands so, with the script that it had
  pub change_puts : (p : Place) (a : Option Armed) → script_of w s ≡ a → Changes s p a w (puts s p w)
  change_puts p a e = record {
    place_here = puts_here p;
    place_there = puts_there p;
    script_here = e;
    script_there = λ t ne. refl;
    table = r;
    circuits = refl;
    elsewhere = record { post = refl; over = refl };
  }

  -- the site stands so, with this script
  pub change_arms : (p : Place) (a : Armed) → a.site ≡ s → Changes s p (Some a) w (puts s p (arms a w))
  change_arms p a e = record {
    place_here = puts_here p;
    place_there = puts_there p;
    script_here = put_here armed_site a s w.armed e;
    script_there = λ t ne. put_there armed_site a t w.armed (λ f. ne (sym f ∙ e));
    table = put_rising armed_site a w.armed r;
    circuits = refl;
    elsewhere = record { post = refl; over = refl };
  }

  -- the site is stopped, with no script
  pub change_stops : (d : Disk) → Changes s (Stopped d) None w (stops_with s d w)
  change_stops d = record {
    place_here = puts_here (Stopped d);
    place_there = puts_there (Stopped d);
    script_here = out_here armed_site s w.armed r;
    script_there = λ t ne. out_there armed_site t s w.armed ne;
    table = without_rising armed_site s w.armed r;
    circuits = refl;
    elsewhere = record { post = refl; over = refl };
  }
