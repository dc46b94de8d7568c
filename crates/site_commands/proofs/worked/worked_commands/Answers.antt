use Rattle.site_commands.proofs.WorkedCommands as computed
use Rattle.site_commands.proofs.worked.worked_commands.Goals as goal

pub returns : goal.returns
returns c = record {
  defaults = computed.defaults;
  page_draft = computed.page_draft;
  texts = computed.texts;
  no_date = computed.no_date;
  null_title = computed.null_title;
  other_kind = computed.other_kind;
  other_status = computed.other_status;
  edited = computed.edited;
  ignored_kind = computed.ignored_kind;
  null_status = computed.null_status;
  greatest_id = computed.greatest_id;
  greater_id = computed.greater_id;
  id_0 = computed.id_0;
  minus_0 = computed.minus_0;
  fraction = computed.fraction;
  exponent = computed.exponent;
  id_in_a_text = computed.id_in_a_text;
  set = computed.set;
  no_name = computed.no_name;
  longest_name = computed.longest_name;
  longer_name = computed.longer_name;
  activated = computed.activated;
  deactivated = computed.deactivated;
  templated = computed.templated;
  null_body = computed.null_body;
  no_body = computed.no_body;
  unnamed_template = computed.unnamed_template;
  imported = computed.imported;
  null_site = computed.null_site;
  no_site = computed.no_site;
  asked_for = computed.asked_for;
  no_path = computed.no_path;
  begun = computed.begun;
  no_path_to_begin = computed.no_path_to_begin;
  turned = computed.turned;
  most_turns = computed.most_turns;
  more_turns = computed.more_turns;
  count_0 = computed.count_0;
  page_0 = computed.page_0;
  page_9 = computed.page_9;
  no_count = computed.no_count;
  last_value = computed.last_value;
  no_such_command = computed.no_such_command;
  no_object = computed.no_object;
}
