-- What passes, invocations, asks and shortcodes mean (Plugin Handbook, Hooks; Code Reference, apply_filters, do_action,
-- class WP_Hook; Shortcode API, do_shortcode).
use Rattle.std.specs.Prelude.{ℕ, zero, suc, ◌+◌, ◌-◌, ℤ, pos, Bool, false, ◌&&◌, ◌==◌, List, [], ◌∷◌, ◌++◌, map, length, take, Option, None, Some}
use Rattle.std.specs.Prelude.{unwrap_or, is_some, if◌then◌else◌, nat_lt, min, slice_range, slice_get, codes, bytes_eq}
use Rattle.std.specs.List.{list_any}
use Rattle.shortcode_atts.specs.Attributes.{no_attributes, attributes}
use Rattle.plain_data.specs.Names.{is_hook_name}
use Rattle.hook_changes.specs.declared.reply.Call.{Call}
use Rattle.hook_changes.specs.declared.reply.Reply.{Reply}
use Rattle.hook_changes.specs.declared.reply.Answer.{Answer}
use Rattle.hook_changes.specs.declared.reply.Answer.TheVariants as answer
use Rattle.hook_changes.specs.declared.reply.Ask.{Ask}
use Rattle.hook_changes.specs.declared.reply.Ask.TheVariants.{Apply, Act, Shortcodes, Did, Current, Doing, Has, TagExists, GetOption}
use Rattle.hook_changes.specs.declared.reply.Then.{Then}
use Rattle.hook_changes.specs.declared.reply.Then.TheVariants as next
use Rattle.callback_store.specs.Shape.{Shape, is_held}
use Rattle.hook_registry.specs.declared.registration.Entry.{Entry}
use Rattle.hook_registry.specs.Named.{value_of, set_value}
use Rattle.hook_registry.specs.Table.{group, first, after, has, priority_of, times_fired}
use Rattle.shortcode_scan.specs.declared.Span.{Span}
use Rattle.shortcode_scan.specs.declared.Piece.{Piece}
use Rattle.shortcode_scan.specs.declared.Piece.TheVariants.{Plain, Match}
use Rattle.shortcode_scan.specs.Pieces.{pieces_of}
use Rattle.shortcode_scan.specs.Live.{live}
use Rattle.shortcode_scan.specs.Spans.{inner_span}
use Rattle.hook_meaning.specs.declared.fault.RunFault.TheVariants.{TooManyCalls, TooDeep}
use Rattle.hook_meaning.specs.declared.pass_kind.PassKind.{PassKind}
use Rattle.hook_meaning.specs.declared.pass_kind.PassKind.TheVariants.{Filter, Action}
use Rattle.plain_data.specs.Texts.{Text}
use Rattle.hook_meaning.specs.World.{World, world_after_changes}
use Rattle.hook_meaning.specs.Trace.{Trace, Done, Refused, Turn, and_then, work_if}

-- what an invocation of a callback means
abbrev pub Invocation : Type 0
Invocation = World → ℕ → Call → Trace Text

-- the last text, or the empty text if there is none
abbrev pub last_or_empty : List Text → Text
last_or_empty xs = unwrap_or (slice_get xs (length xs - 1)) []

-- the texts without the last one
abbrev pub without_last : List Text → List Text
without_last xs = take (length xs - 1) xs

-- the first text, or the empty text if there is none
abbrev pub first_or_empty : List Text → Text
first_or_empty [] = []
first_or_empty (x ∷ xs) = x

-- the call of a callback of a hook
abbrev pub hook_call : Text → List Text → Call
hook_call hook args = record { hook = hook; args = args; tag = []; atts = no_attributes; content = []; answers = [] }

-- work that is done one level deeper
unfoldable pub deeper : {A : Type 0} → World → (World → Trace A) → Trace A
deeper world work =
    work_if (nat_lt world.depth 32)
    (λ w. and_then (work (record w { depth = w.depth + 1 })) (λ later x. Done (record later { depth = later.depth - 1 }) x))
    (λ w. Refused TooDeep)
    world

-- the arguments of a pass, of which a callback gets the first that it accepts
abbrev pub arguments : PassKind → Text → List Text → List Text
arguments Filter value args = value ∷ args
arguments Action value [] = [] ∷ []
arguments Action value (arg ∷ args) = arg ∷ args

-- the value after a callback: its answer in a filter, and no other one in an action
abbrev pub value_after : PassKind → Text → Text → Text
value_after Filter value result = result
value_after Action value result = value

module _ (invocation : Invocation) (kind : PassKind) (hook : Text) (args : List Text) where
  -- the entries of a group as it was reached, one after another
  unfoldable pub group_pass : World → Text → List Entry → Trace Text
  group_pass world value [] = Done world value
  group_pass world value (e ∷ es) =
      and_then (invocation world e.callback (hook_call hook (take e.accepted (arguments kind value args))))
      (λ after result. group_pass after (value_after kind value result) es)

  -- The groups from a priority on, each as the table has it when it is reached. Each has an entry, so there are at most as
  -- many as calls are left: their count goes down so that the definition ends, and `zero` is never reached. By the law
  -- `bounds_change_nothing` a pass goes from the `group` of a priority to what comes `after` it, whatever the count.
  unfoldable pub priorities_pass : ℕ → World → Text → Option ℤ → Trace Text
  priorities_pass calls world value None = Done world value
  priorities_pass zero world value (Some priority) = Refused TooManyCalls
  priorities_pass (suc calls) world value (Some priority) =
      and_then (group_pass world value (group world.table hook priority))
      (λ later kept. priorities_pass calls later kept (after later.table hook priority))

-- a pass over a hook, which is the innermost running one until the end
unfoldable pub pass : Invocation → PassKind → World → Text → Text → List Text → Trace Text
pass invocation kind world hook value args =
    and_then (priorities_pass invocation kind hook args world.calls (record world { running = world.running ++ hook ∷ [] }) value (first world.table hook))
    (λ after result. Done (record after { running = without_last after.running }) result)

-- a filter pass (apply_filters): a text that isn't a hook's name leaves the value as it is
unfoldable pub filter_pass : Invocation → World → Text → Text → List Text → Trace Text
filter_pass invocation world hook value args =
    work_if (is_hook_name hook) (λ w. pass invocation Filter w hook value args) (λ w. Done w value) world

-- one more firing; 4,294,967,295 stays (did_action)
abbrev pub with_firing : World → Text → World
with_firing world hook = record world { counts = set_value world.counts hook (min (times_fired world.counts hook + 1) 4294967295) }

-- an action pass (do_action), counted before its callbacks run: a text that isn't a hook's name does nothing
unfoldable pub action_pass : Invocation → World → Text → List Text → Trace Text
action_pass invocation world hook args =
    work_if (is_hook_name hook) (λ w. pass invocation Action (with_firing w hook) hook [] args) (λ w. Done w []) world

-- the stretch of a text that a span names
abbrev pub text_at : Text → Span → Text
text_at text span = slice_range text span.start span.end

-- a bracket, if it is there
abbrev pub bracket : Bool → ℕ → Text
bracket there byte = if there then byte ∷ [] else []

-- the call of a shortcode's handler
abbrev pub handler_call : Text → Span → Span → Span → Call
handler_call text name atts content = record {
  hook = [];
  args = [];
  tag = text_at text name;
  atts = attributes (text_at text atts);
  content = text_at text
      content;
  answers = [];
}

-- the filter on what replaces a shortcode (do_shortcode_tag)
abbrev pub shortcode_filter : Text
shortcode_filter = codes "do_shortcode_tag"

-- what replaces a match, by the handler that its tag has when it is reached: the handler's answer between the extra
-- brackets, once it has gone through the filter with the tag. A match whose tag has no handler stays, unfiltered
unfoldable pub handled : Invocation → World → Option ℕ → Call → Text → Text → Text → Trace Text
handled invocation world None call whole opening closing = Done world whole
handled invocation world (Some handler) call whole opening closing =
    and_then (invocation world handler call)
    (λ later result. filter_pass invocation later shortcode_filter (opening ++ result ++ closing) (call.tag ∷ []))

-- what replaces a piece: a match with both extra brackets is escaped, and loses them, unfiltered
unfoldable pub piece_pass : Invocation → Text → World → Piece → Trace Text
piece_pass invocation text world (Plain span) = Done world (text_at text span)
piece_pass invocation text world (Match whole name atts content opening closing) =
    work_if (opening && closing)
    (λ w. Done w (text_at text (inner_span whole)))
    (λ w. handled invocation w (value_of w.tags (text_at text name)) (handler_call text name atts content) (text_at text whole) (bracket opening 91)
    (bracket closing 93))
    world

-- the pieces left, in order, after the text so far
unfoldable pub pieces_pass : Invocation → Text → World → Text → List Piece → Trace Text
pieces_pass invocation text world so_far [] = Done world so_far
pieces_pass invocation text world so_far (p ∷ ps) =
    and_then (piece_pass invocation text world p) (λ later result. pieces_pass invocation text later (so_far ++ result) ps)

-- the text with its shortcodes replaced (do_shortcode): names and pieces are fixed as it begins, and no answer is scanned again
unfoldable pub shortcodes_pass : Invocation → World → Text → Trace Text
shortcodes_pass invocation world text = pieces_pass invocation text world [] (pieces_of (live (map (λ p. p.0) world.tags) text) text)

-- a number as an answer, or false if there is none
abbrev pub number_or_false : Option ℤ → Answer
number_or_false None = answer.Flag false
number_or_false (Some number) = answer.Number number

-- a text as an answer, or false if there is none
abbrev pub text_or_false : Option Text → Answer
text_or_false None = answer.Flag false
text_or_false (Some text) = answer.Text text

-- whether the hook has any registration, or the smallest priority of the callback there (has_filter)
abbrev pub has_answer : World → Text → Option ℕ → Answer
has_answer world hook None = answer.Flag (has world.table hook)
has_answer world hook (Some callback) = number_or_false (priority_of world.table hook callback)

-- the answer to an ask: a pass one level deeper, or what the world has
unfoldable pub answered : Invocation → World → Ask → Trace Answer
answered invocation world (Apply hook value args) =
    deeper world (λ inside. and_then (filter_pass invocation inside hook value args) (λ later text. Done later (answer.Text text)))
answered invocation world (Act hook args) =
    deeper world (λ inside. and_then (action_pass invocation inside hook args) (λ later text. Done later answer.Nothing))
answered invocation world (Shortcodes text) =
    deeper world (λ inside. and_then (shortcodes_pass invocation inside text) (λ later replaced. Done later (answer.Text replaced)))
answered invocation world (Did hook) = Done world (answer.Number (pos (times_fired world.counts hook)))
answered invocation world Current = Done world (answer.Text (last_or_empty world.running))
answered invocation world (Doing hook) = Done world (answer.Flag (list_any (bytes_eq hook) world.running))
answered invocation world (Has hook callback) = Done world (has_answer world hook callback)
answered invocation world (TagExists tag) = Done world (answer.Flag (is_some (value_of world.tags tag)))
answered invocation world (GetOption name) = Done world (text_or_false (value_of world.options name))

-- how a callback goes on: its answer is the result; at an ask it is invoked again with the engine's answer after the others
unfoldable pub follow : Invocation → World → ℕ → Call → Then → Trace Text
follow invocation world callback call (next.Answer text) = Done world text
follow invocation world callback call (next.Ask ask) =
    and_then (answered invocation world ask)
    (λ later reply. invocation later callback (record call { answers = call.answers ++ reply ∷ [] }))

-- what the meaning takes from outside: the stated replies, and the plugins' names, load lists and numbers
pub record Engine : Type 0 where
  pub says : ℕ → Call → Reply
  pub plugins : List Shape

-- the reply that prints, changes and asks nothing, and answers the empty text
abbrev pub silence : Reply
silence = record { changes = []; echo = []; next = next.Answer [] }

module _ (engine : Engine) where
  -- the reply of a callback; a number that no plugin has answers empty text and does nothing else
  abbrev pub reply_to_call : ℕ → Call → Reply
  reply_to_call callback call = if is_held engine.plugins callback then engine.says callback call else silence

  -- the world once a reply's echo is appended and its changes are carried out
  abbrev pub world_after_reply : World → Reply → World
  world_after_reply world reply = world_after_changes engine.plugins (record world { output = world.output ++ reply.echo }) reply.changes

  -- an invocation whose call is taken. Core's callback 0 replaces the shortcodes of its first argument
  unfoldable pub invoked : Invocation → World → ℕ → Call → Trace Text
  invoked invocation world callback call =
      work_if (callback == 0)
      (λ w.
      Turn (record { callback = callback; call = call; world = w })
      (deeper w (λ inside. shortcodes_pass invocation inside (first_or_empty call.args))))
      (λ w.
      let reply = reply_to_call callback call in
      let later = world_after_reply w reply in
      Turn (record { callback = callback; call = call; world = later }) (follow invocation later callback call reply.next))
      world

  -- an invocation with that many calls left
  unfoldable pub invoked_with : Invocation → ℕ → World → ℕ → Call → Trace Text
  invoked_with invocation zero world callback call = Refused TooManyCalls
  invoked_with invocation (suc left) world callback call = invoked invocation (record world { calls = left }) callback call

  -- The invocations with no more calls left than these: the count goes down so that the definition ends. By the law
  -- `bounds_change_nothing` an invocation is `invoked_with`, over itself and the calls that are left.
  unfoldable pub invoke_within : ℕ → Invocation
  invoke_within zero world callback call = Refused TooManyCalls
  invoke_within (suc calls) world callback call = invoked_with (invoke_within calls) world.calls world callback call

  -- an invocation takes one of the calls that are left, and is refused if no call is left
  unfoldable pub invoke : Invocation
  invoke world callback call = invoke_within world.calls world callback call

  -- the groups of a pass from a priority on, for as many invocations as there are calls left
  abbrev pub from_priority : PassKind → Text → List Text → World → Text → Option ℤ → Trace Text
  from_priority kind hook args world value next = priorities_pass invoke kind hook args world.calls world value next

  -- the meaning of `apply_filters`
  unfoldable pub filtered : World → Text → Text → List Text → Trace Text
  filtered world hook value args = filter_pass invoke world hook value args

  -- the meaning of `do_action`
  unfoldable pub acted : World → Text → List Text → Trace (Unit {0})
  acted world hook args = and_then (action_pass invoke world hook args) (λ later nothing. Done later tt)

  -- the meaning of `do_shortcode`
  unfoldable pub replaced : World → Text → Trace Text
  replaced world text = shortcodes_pass invoke world text
