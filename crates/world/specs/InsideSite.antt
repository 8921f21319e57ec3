-- How the fields of a site show what it holds.
use Rattle.std.specs.Prelude.{map}
use Rattle.world.specs.declared.site.Site.TheInside.{Inside}
use Rattle.world.specs.Outboxes.{released_frames}
use Rattle.world.specs.Sites.{SiteView, KeepingSite, IsSite}

abbrev pub site_of : Inside → SiteView
site_of s = record {
  current = s.current.core;
  saved = s.saved;
  released = map released_frames s.outboxes.items;
}

abbrev pub view_of : Inside → KeepingSite
view_of s = record { site = site_of s; early = s.current.early }

abbrev pub IsSound : Inside → Type 0
IsSound s = IsSite (site_of s)
