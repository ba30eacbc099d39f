-- What holds of the book at each place of a legal trace.
use Rattle.std.proofs.Common.{inl, ℕ, List, [], ◌∷◌, refl, arith}
use Rattle.driver_model.specs.declared.action.Action.{Action}
use Rattle.legal_trace.specs.Book.{Book, blank_book, book, entered, entered_each, lines_of}
use Rattle.legal_trace.specs.Legal.{MayStand, AllStand}
use Rattle.legal_trace.proofs.Ledgers.{each_keeps, UpIsNotOver, up_keeps, FewAreDealt, few_keeps}
use Rattle.legal_laws.proofs.Links.Opens.{IsOpening, opening_kept, StillAtFirst, still_kept}
use Rattle.legal_laws.proofs.Traces.Numbers.{HasLinks, links_kept, HasStories, stories_kept}
use Rattle.legal_laws.proofs.Submissions.Tales.{AnsweredOnce, once_kept, TriesAreStarted, starts_kept}
use Rattle.legal_laws.proofs.Links.Shutdown.{ShutIsHeard, shut_kept}
use Rattle.legal_laws.proofs.Links.Shaped.{IsShaped, shaped_kept}
use Rattle.legal_laws.proofs.Notices.Told.{NoticesWait, waits_kept}
use Rattle.legal_laws.proofs.Generations.Lives.{Lives, lives_kept, Goes}
use Rattle.legal_laws.proofs.Generations.Goes.{goes_kept}
use Rattle.legal_laws.proofs.Internal.Repeats.{Repeats, repeats_kept}

-- how it opens, and that until the first event nothing happens to links; the numbers of links and submissions; that links which are up have not ended, and are not dealt too many
-- items; what submissions were answered, and which messages they started; what links hear of a shutdown, that setups take what they are to, and that nothing
-- starts on a link that lacks credentials; that a link of which something waits to be told is up, where it is heard; that one link is
-- current, to which submissions go that are open; and what is subscribed again
pub record Sound (b : Book) : Type 0 where
  pub opens : IsOpening b
  pub still : StillAtFirst b.turns b.link
  pub links : HasLinks b
  pub stories : HasStories b
  pub up : (l : ℕ) → UpIsNotOver (b.link l)
  pub few : (l : ℕ) → FewAreDealt (b.link l)
  pub once : (n : ℕ) → AnsweredOnce (b.story n)
  pub starts : (n : ℕ) → TriesAreStarted b.link (b.story n)
  pub shut : ShutIsHeard b.shut b.link
  pub shaped : (l : ℕ) → IsShaped (b.link l)
  pub waits : NoticesWait b
  pub lives : Lives b
  pub goes : Goes b
  pub repeats : Repeats b

-- each action that may stand keeps it
pub stays_sound : (b : Book) (a : Action) → MayStand b a → Sound b → Sound (entered b a)
stays_sound b a may h = record {
  opens = opening_kept b a may h.opens;
  still = still_kept b a may h.still;
  links = links_kept b a may h.links;
  stories = stories_kept b a may h.stories;
  up = λ l. each_keeps UpIsNotOver up_keeps (b.link l) (lines_of b l a) (h.up l);
  few = λ l. each_keeps FewAreDealt few_keeps (b.link l) (lines_of b l a) (h.few l);
  once = λ n. once_kept b a may h.stories n (h.once n);
  starts = λ n. starts_kept b a may n (h.starts n);
  shut = shut_kept b a may h.opens h.shut;
  shaped = λ l. shaped_kept b a l may h.links (h.shaped l);
  waits = waits_kept b a may h.still h.waits;
  lives = lives_kept b a may h.opens h.links h.up h.goes h.lives;
  goes = goes_kept b a may h.links h.stories h.lives h.goes;
  repeats = repeats_kept b a may h.opens h.links h.stories h.goes h.repeats;
}

-- the blank book has it
pub blank_is_sound : Sound blank_book
blank_is_sound = record {
  opens = record {
    no_links = λ e. refl;
    no_config = λ e. refl;
    none_yet = λ i. refl;
    not_shut = λ i. refl;
    asked = λ i. absurd (omega (arith, i));
    one_link = λ plain. omega arith;
  };
  still = λ i l. record { down = refl; lives = refl; untold = refl; mute = refl };
  links = record { asked = λ l i. absurd (omega arith); unasked = λ l i. (refl, refl, refl) };
  stories = λ n i. refl;
  up = λ l u. refl;
  few = λ l. omega arith;
  once = λ n. record { once = omega arith; told = λ e t. absurd (cc e) };
  starts = λ n t e. absurd (cc e);
  shut = λ s l. absurd (cc s);
  shaped = λ l. record { none = λ e. refl; are = λ k s i. absurd (omega (arith, i)); bare = λ lacks. refl; ready = λ some. absurd (cc some); second = λ none. refl; came = λ none. refl };
  waits = λ l heard. absurd (cc heard);
  lives = record {
    near = inl refl;
    aside = λ l apart. record { down = refl; still = refl; parted = λ heard cut. absurd (cc cut); shown = λ e fails. absurd (cc fails) };
    first = λ has none. refl;
    failed = λ f. absurd (cc f);
    errors = λ some. absurd (cc some);
    lazy = λ i. absurd (omega (arith, i));
  };
  goes = λ n. record { open_on = λ o. refl; open_in = λ o. absurd (cc o); tries_on = λ t last. absurd (cc last); late_on = λ late. absurd (cc late); behind = omega arith };
  repeats = record { unasked = λ l e. refl; tried = λ n l k o. absurd (cc o); holds = λ unserved. absurd (cc unserved) };
}

-- and so do many
pub stay_sound : (b : Book) (front : List Action) → AllStand b front → Sound b → Sound (entered_each b front)
stay_sound b [] all h = h
stay_sound b (a ∷ more) all h = stay_sound (entered b a) more all.1 (stays_sound b a all.0 h)

-- so does the book of actions that may stand
pub sound_behind : (front : List Action) → AllStand blank_book front → Sound (book front)
unfolding book
sound_behind front all = stay_sound blank_book front all blank_is_sound
