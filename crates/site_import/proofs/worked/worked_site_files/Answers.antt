use Rattle.site_import.proofs.WorkedFiles as computed
use Rattle.site_import.proofs.worked.worked_site_files.Goals as goal

pub returns : goal.returns
returns c = record {
  no_text = computed.no_text;
  no_object = computed.no_object;
  null_site = computed.null_site;
  no_version = computed.no_version;
  version_2 = computed.version_2;
  version_3 = computed.version_3;
  version_in_a_text = computed.version_in_a_text;
  version_with_fraction = computed.version_with_fraction;
  nothing = computed.nothing;
  other_keys = computed.other_keys;
  page = computed.page;
  null_posts = computed.null_posts;
  post_without_content = computed.post_without_content;
  id_0 = computed.id_0;
  second_date = computed.second_date;
  first_post_first = computed.first_post_first;
  options = computed.options;
  later_option = computed.later_option;
  unnamed_option = computed.unnamed_option;
  options_in_a_list = computed.options_in_a_list;
  template = computed.template;
  unknown_template = computed.unknown_template;
  null_template = computed.null_template;
  active = computed.active;
  active_number = computed.active_number;
  front_page = computed.front_page;
  front_posts = computed.front_posts;
  front_after_options = computed.front_after_options;
  front_in_version_1 = computed.front_in_version_1;
  front_x = computed.front_x;
  front_without_page = computed.front_without_page;
  front_page_0 = computed.front_page_0;
  null_front = computed.null_front;
  posts_before_options = computed.posts_before_options;
  options_before_templates = computed.options_before_templates;
  options_before_front = computed.options_before_front;
  front_before_templates = computed.front_before_templates;
  templates_before_active = computed.templates_before_active;
}
