-- How the ends in `Links` are seen as its view.
use Rattle.std.specs.Prelude.{ℕ, List, map}
use Rattle.link.specs.declared.links.Ends.{Ends}
use Rattle.model.specs.View.{Link, no_link, all_kept, kept_to}
use Rattle.link_ends.specs.Receivers.{new_received, all_saved, saved_to}
use Rattle.link.specs.Links.{LinksView}

abbrev pub sender_of : Ends → Link
sender_of e = e.sender

abbrev pub taken_of : Ends → ℕ
taken_of e = e.receiver.taken

abbrev pub saved_of : Ends → ℕ
saved_of e = e.receiver.saved

abbrev pub view_of : List Ends → LinksView
view_of es = record { links = map sender_of es; got = map taken_of es; acks = map saved_of es }

abbrev pub new_ends : Ends
new_ends = record { sender = no_link; receiver = new_received }

abbrev pub kept_ends : Ends → Ends
kept_ends e = record { sender = all_kept e.sender; receiver = all_saved e.receiver }

abbrev pub kept_ends_to : ℕ → ℕ → Ends → Ends
kept_ends_to sent received e =
    record { sender = kept_to sent e.sender; receiver = saved_to received e.receiver }
