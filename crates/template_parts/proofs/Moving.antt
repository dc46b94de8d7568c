-- How a page moves along what is left of it.
use Rattle.std.proofs.Common.{◌≡◌, ℕ, false, ◌∙◌, List, [], ◌∷◌, ◌++◌, Option, None, Some, Result, Ok, Err, refl, sym, ap, subst}
use Rattle.std.specs.Prelude.{option_to_list}
use Rattle.hook_changes.specs.declared.reply.Call.{Call}
use Rattle.hook_changes.specs.declared.reply.Reply.{Reply}
use Rattle.site_records.specs.declared.post.Post.{Post}
use Rattle.template_trees.specs.declared.tree.Item.{Item}
use Rattle.plain_data.specs.Texts.{Text}
use Rattle.hook_meaning.specs.World.{World}
use Rattle.hook_meaning.specs.declared.fault.RunFault.{RunFault}
use Rattle.hook_meaning.specs.declared.fault.RunFault.TheVariants.{TooManyCalls, TooDeep, OutOfMemory}
use Rattle.hook_machine.specs.declared.run.jobs.Turn as result
use Rattle.hook_machine.specs.declared.run.jobs.Turn.TheVariants as turn
use Rattle.hook_machine.specs.declared.run.jobs.Job.TheVariants.{Filters, Action}
use Rattle.hook_meaning.specs.Trace.{Event, Trace, Done, Turn, outcome_of, and_then}
use Rattle.hook_meaning.specs.Meaning.{Engine, filtered, acted, invoke}
use Rattle.hook_meaning.proofs.Ending.{filter_unhooked}
use Rattle.hook_registry.specs.Table.{has}
use Rattle.hook_machine.specs.Jobs.{job_left}
use Rattle.hook_machine.specs.declared.run.Run.{Run}
use Rattle.hook_machine.specs.Runs.{world_of, engine_of, left_of}
use Rattle.hook_machine.specs.declared.run.frames.Pace.{Pace}
use Rattle.hook_machine.specs.Moves as run
use Rattle.hook_machine.specs.Moves.{Leads}
use Rattle.hook_machine.proofs.Going.{leads_here, leads_then, leads_under, same_end}
use Rattle.template_parts.specs.declared.settings.Settings.{Settings}
use Rattle.template_parts.specs.declared.item.Shown.{Shown}
use Rattle.template_parts.specs.declared.item.Hand.{Hand}
use Rattle.template_parts.specs.declared.item.Hand.TheVariants.{Printed, Dropped}
use Rattle.template_parts.specs.declared.steps.Step.{Step}
use Rattle.template_parts.specs.Pages.{Work, Placed, IsPage, IsRefusedBy, print_text, over, each, placed_pass, shown_pass, action_pass, item_pass, page_items}
use Rattle.template_parts.specs.Pages.{page_pass}
use Rattle.plain_data.specs.Names.{core_name}
use Rattle.plain_data.specs.declared.core_hooks.CoreHook.{CoreHook}
use Rattle.template_parts.specs.declared.place.TreePlace.{TreePlace}
use Rattle.template_parts.specs.declared.place.ItemPlace.TheVariants as place
use Rattle.template_parts.specs.Places.{stored_item, item_at, post_at, step_items, items_left}
use Rattle.template_parts.specs.Left.{shown_as, handed_on, job_or_nothing, item_or_nothing, step_pass, then_items, Begins, BeginsBy, Moves}
use Rattle.template_parts.specs.Page.{Goes, IsDoneBy}

-- something that is there
pub busy : {A P : Type 0} (x : A) → Some x ≡ None → P
busy x is = absurd (let none : Some x ≡ None = is in cc)

-- what has begun some work has begun it at any pace
pub begins_by : {S : Type 0} {pace : Pace} {says : ℕ → Call → Reply} {number : S → ℕ} {before : Run S} {result : Result (Option Hand) RunFault} {after : Run S}
    {work : Engine → World → Work} → Begins says number before result after work → BeginsBy pace says number before result after work
begins_by {result = Ok hand} begins =
    record { begun = (leads_here begins.begun.0, begins.begun.1, begins.begun.2); memory = tt; engine = begins.engine }
begins_by {result = Err fault} begins = record { begun = tt; memory = begins.memory; engine = begins.engine }

-- some work that leads to what a run has begun
pub begins_after : {S : Type 0} {pace : Pace} {says : ℕ → Call → Reply} {number : S → ℕ} (before middle : Run S) (result : Result (Option Hand) RunFault)
    (after : Run S) (work then_work : Engine → World → Work) → engine_of says number middle ≡ engine_of says number before
    → Leads pace (work (engine_of says number before) (world_of before)) (then_work (engine_of says number middle) (world_of middle))
    → Begins says number middle result after then_work → BeginsBy pace says number before result after work
begins_after {pace = pace} {says = says} {number = number} before middle (Ok hand) after work then_work same leads begins =
    record {
      begun = (
        leads_then leads (subst (λ (e : Engine). Leads pace (then_work (engine_of says number middle) (world_of middle))
            (job_or_nothing (world_of after) (left_of e after) hand)) same
            (leads_here begins.begun.0)),
        begins.begun.1,
        begins.begun.2,
      );
      memory = tt;
      engine = begins.engine ∙ same;
    }
begins_after before middle (Err fault) after work then_work same leads begins =
    record { begun = tt; memory = begins.memory; engine = begins.engine ∙ same }

module _ (engine : Engine) (settings : Settings) where
  -- a filter that was passed over shows its value as it is
  pub shown_passed_over : {pace : Pace} (world later : World) (shown : Text → Text) (hook value : Text) (args : List Text)
      → Leads pace (filtered engine world hook value args) (Done later value)
      → Leads pace (shown_pass engine settings shown world hook value args) (print_text later (shown value))
  unfolding shown_pass
  shown_passed_over world later shown hook value args leads = leads_under (λ t. and_then t (λ later v. print_text later (shown v))) through_shown leads
    where
      through_shown : (xs : List Event) (t : Trace Text)
          → and_then (run.through xs t) (λ later v. print_text later (shown v)) ≡ run.through xs (and_then t (λ later v. print_text later (shown v)))
      through_shown [] t = refl
      through_shown (x ∷ xs) t = ap (Turn x) (through_shown xs t)

  -- what some work passes over, the page passes over
  through_items : (items : List Placed) (xs : List Event) (t : Work)
      → then_items engine settings (run.through xs t) items ≡ run.through xs (then_items engine settings t items)
  through_items items [] t = refl
  through_items items (x ∷ xs) t = ap (Turn x) (through_items items xs t)

  -- the work of an action that was started is that of the action
  pub action_begun : (world now : World) (hook given : Text) (args : List Text) (left : Trace Text) → given ≡ hook → args ≡ []
      → left ≡ job_left engine world (Action given args)
      → action_pass engine settings world hook ≡ job_or_nothing now left (Some Dropped)
  unfolding action_pass acted
  action_begun world now hook given args left same none is = rw (is, same, none) refl

  -- the work of an action that was passed over is done
  pub action_alone : (world later : World) (hook : Text) → acted engine world hook [] ≡ Done later tt → action_pass engine settings world hook ≡ Done later tt
  unfolding action_pass
  action_alone world later hook is = is

  -- the work of a filter that was started is that of the value that is shown
  pub filter_begun : (world now : World) (shown : Shown) (hook given value : Text) (args : List Text) (left : Trace Text) → given ≡ hook
      → left ≡ job_left engine world (Filters given value args)
      → shown_pass engine settings (shown_as shown) world hook value args ≡ job_or_nothing now left (Some (Printed shown))
  unfolding shown_pass filtered
  filter_begun world now shown hook given value args left same is = rw (is, same) refl

  -- a value that no callback filters is shown at once
  pub shown_unfiltered : (world : World) (shown : Text → Text) (hook value : Text) (args : List Text) → has world.table hook ≡ false
      → shown_pass engine settings shown world hook value args ≡ print_text world (shown value)
  unfolding shown_pass filtered
  shown_unfiltered world shown hook value args none =
      ap (λ (t : Trace Text). and_then t (λ later v. print_text later (shown v))) (filter_unhooked (invoke engine) world hook value args none)

  -- the item of the first step, and then those of the others
  pub step_first : (posts : List Post) (world : World) (step : Step) (items : List Placed)
      → each (placed_pass engine settings) world (step_items settings posts step ++ items)
      ≡ then_items engine settings (step_pass engine settings posts world step) items
  unfolding each
  step_first posts world step items = go (post_at posts step.post) (item_at settings step.place)
    where
      go : (post : Option Post) (o : Option Item)
          → each (placed_pass engine settings) world (over post (option_to_list o) ++ items)
          ≡ then_items engine settings (item_or_nothing engine settings world post o) items
      go post None = refl
      go post (Some item) = refl

  -- all of a page is left
  pub all_left : (posts : List Post) (world : World) (items : List Placed) → items ≡ page_items settings posts
      → page_pass engine settings posts world ≡ then_items engine settings (Done world tt) items
  unfolding page_pass
  all_left posts world items is = ap (each (placed_pass engine settings) world) (sym is)

  -- the item of a step that is in no template
  pub hook_step : (posts : List Post) (world : World) (step : Step) (hook : CoreHook) (name : Text) → step.place ≡ place.Hook hook → name ≡ core_name hook
      → action_pass engine settings world name ≡ step_pass engine settings posts world step
  unfolding item_pass
  hook_step posts world step hook name is same = rw (is, same) refl

  -- the item of a step that is in a template
  pub item_step : (posts : List Post) (world : World) (step : Step) (stored : TreePlace) (post : Option Post) (item : Item) → step.place ≡ place.Stored stored
      → stored_item settings stored ≡ Some item
      → post ≡ post_at posts step.post → item_pass engine settings post world item ≡ step_pass engine settings posts world step
  item_step posts world step stored post item is found over_it = rw (is, found, over_it) refl

  module _ (posts : List Post) (world : World) (left : Trace Text) (hand : Option Hand) (steps : List Step) where
    -- nothing is left
    pub none_move : hand ≡ None → steps ≡ [] → then_items engine settings (job_or_nothing world left hand) (items_left settings posts steps) ≡ Done world tt
    unfolding each
    none_move free none = rw (free, none) refl

    -- the next step was begun
    pub step_move : {pace : Pace} (later : World) (now : Trace Text) (waits : Option Hand) (step : Step) (rest : List Step) → hand ≡ None
        → steps ≡ step ∷ rest → Leads pace (step_pass engine settings posts world step) (job_or_nothing later now waits)
        → Leads pace (then_items engine settings (job_or_nothing world left hand) (items_left settings posts steps))
        (then_items engine settings (job_or_nothing later now waits) (items_left settings posts rest))
    step_move later now waits step rest free is first =
        rw (free, is) (leads_then (leads_here (step_first posts world step (items_left settings posts rest)))
        (leads_under (λ work. then_items engine settings work (items_left settings posts rest)) (through_items (items_left settings posts rest)) first))

  module _ (hand : Hand) (items : List Placed) (world : World) where
    -- what a job passes over, the page passes over
    through_job : (w : World) (xs : List Event) (t : Trace Text)
        → then_items engine settings (job_or_nothing w (run.through xs t) (Some hand)) items
        ≡ run.through xs (then_items engine settings (job_or_nothing w t (Some hand)) items)
    through_job w [] t = refl
    through_job w (x ∷ xs) t = ap (Turn x) (through_job w xs t)

    -- the job under way is refused
    pub refused_move : (pace : Pace) (left now : Trace Text) (why : RunFault) (w v : Event) (n : Work) → run.TurnsBy pace left (Err why) w now
        → Moves pace (then_items engine settings (job_or_nothing world left (Some hand)) items) (Err why) v n
    refused_move pace left now TooManyCalls w v n is = leads_under (λ t. then_items engine settings (job_or_nothing world t (Some hand)) items)
        (through_job world) is
    refused_move pace left now TooDeep w v n is = leads_under (λ t. then_items engine settings (job_or_nothing world t (Some hand)) items)
        (through_job world) is
    refused_move pace left now OutOfMemory w v n is = tt

    -- the job under way has made an invocation
    pub more_move : (pace : Pace) (left now : Trace Text) (x : result.Turn) (made : Event) → Leads pace left (run.trace_of_turn x made now) → x ≡ turn.More
        → Leads pace (then_items engine settings (job_or_nothing world left (Some hand)) items)
        (Turn made (then_items engine settings (job_or_nothing made.world now (Some hand)) items))
    more_move pace left now x made is more =
        leads_under (λ t. then_items engine settings (job_or_nothing world t (Some hand)) items) (through_job world) (rw more at is)

    -- the job under way is done, and its result was handed on
    pub done_move : (pace : Pace) (left now : Trace Text) (x : result.Turn) (text : Text) (made : Event) (last : World)
        → Leads pace left (run.trace_of_turn x made now) → x ≡ turn.Done text
        → handed_on hand made.world text ≡ Done last tt
        → Leads pace (then_items engine settings (job_or_nothing world left (Some hand)) items) (each (placed_pass engine settings) last items)
    done_move pace left now x text made last is done handed =
        leads_then (leads_under (λ t. then_items engine settings (job_or_nothing world t (Some hand)) items) (through_job world) (rw done at is))
        (leads_here (ap (λ work. then_items engine settings work items) handed))

-- a page that is printed ends as what was left of it does
pub print_refused : (pace : Pace) (left now all : Work) (why : RunFault) (w : Event) → outcome_of all ≡ outcome_of left → Goes pace left (Err why) w now
    → IsRefusedBy all why
print_refused pace left now all TooManyCalls w e is = λ other. e ∙ sym (same_end is)
print_refused pace left now all TooDeep w e is = λ other. e ∙ sym (same_end is)
print_refused pace left now all OutOfMemory w e is = λ other. absurd (other refl)

pub print_done : {pace : Pace} {left : Work} (all : Work) (text : Text) → outcome_of all ≡ outcome_of left → IsDoneBy pace left text → IsPage all text
print_done all text e is = record { world = is.world; made = e ∙ sym (same_end is.done); whole = is.whole }
