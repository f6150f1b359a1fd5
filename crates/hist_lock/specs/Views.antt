-- The views of the seats, and what each step makes of one.
use Rattle.std.specs.Prelude.{◌+◌, true, false, List, [], ◌∷◌, ◌++◌}
use Rattle.hist_lock.specs.declared.view.Kept.{Kept}
use Rattle.hist_lock.specs.declared.view.View.{View}
use Rattle.hist_lock.specs.Story.{longer}

module _ {E O : Type 0} where
  -- the first view of a lock round a value from this origin
  abbrev pub opener : O → View E O
  opener o = record { live = true; inside = false; id = 0; made = 0; origin = o; seen = []; mine = []; kept = [] }

  -- it has the turn, and sees this list
  abbrev pub entered : View E O → List E → View E O
  entered v log = record { live = v.live; inside = true; id = v.id; made = v.made; origin = v.origin; seen = log; mine = v.mine; kept = v.kept }

  -- its new events are in the list
  abbrev pub added : View E O → List E → List E → View E O
  added v log own = record { live = v.live; inside = v.inside; id = v.id; made = v.made; origin = v.origin; seen = log; mine = own; kept = v.kept }

  -- it has given the turn back
  abbrev pub left : View E O → View E O
  left v = record { live = v.live; inside = false; id = v.id; made = v.made; origin = v.origin; seen = v.seen; mine = v.mine; kept = v.kept }

  -- one more view was split from it
  abbrev pub parted : View E O → View E O
  parted v = record { live = v.live; inside = v.inside; id = v.id; made = v.made + 1; origin = v.origin; seen = v.seen; mine = v.mine; kept = v.kept }

  -- the view that is split from it
  abbrev pub newcomer : View E O → View E O
  newcomer v = record { live = true; inside = false; id = v.made + 1; made = 0; origin = v.origin; seen = v.seen; mine = []; kept = [] }

  -- what is kept of a view
  abbrev pub kept_of : View E O → Kept E
  kept_of w = record { id = w.id; mine = w.mine; seen = w.seen }

  -- another view was joined to it
  abbrev pub joined : View E O → View E O → View E O
  joined v w = record {
    live = v.live;
    inside = v.inside;
    id = v.id;
    made = v.made;
    origin = v.origin;
    seen = longer v.seen w.seen;
    mine = v.mine;
    kept =
        v.kept ++ kept_of w ∷ [];
  }

  -- a spent view
  abbrev pub gone : O → View E O
  gone o = record { live = false; inside = false; id = 0; made = 0; origin = o; seen = []; mine = []; kept = [] }
